-- A log from its end: what stands before the last step is sound or not, as the log is, and the answers of the check. Rests on StepPlaces.
use Prim.Native.Nat.{ℕ, ◌≤◌, ◌<◌}
use mathlib.Core.Path.{◌≡◌, sym, ap, ◌∙◌}
use mathlib.Core.Bool.{Bool, true, false, ◌&&◌}
use mathlib.Core.List.{List}
use native.Mathlib.Omega.{arith}
use lib.ListN.{length}
use Rattle.definitions.specs.List.{Record}
use Rattle.definitions.specs.Read.{paired, records_of}
use Rattle.definitions.specs.Log.{ends_in_mark, before_step, last_is_entry, last_is_group, last_is_step, is_sound}
use Rattle.laws.proofs.LastStep.{step_single, step_group}
use Rattle.laws.proofs.SoundLog.{empty_sound, sound_step}
use Rattle.laws.proofs.Records.{records-length}
use Rattle.edit_log.specs.declared.step.LogStep.{LogStep}
use Rattle.edit_log.specs.Steps.{last_step, Stepped}
use Rattle.edit_log.proofs.StepPlaces.{start_below, before_step_is}

-- the mark says which check decides
pub group_decides : (m s : ℕ) (log : List Record) (a : Bool) → ends_in_mark log ≡ true → a ≡ last_is_group m s log → a ≡ last_is_step m s log
group_decides m s log a marked answer = answer ∙ sym (step_group log marked m s)

pub single_decides : (m s : ℕ) (log : List Record) (a : Bool) → ends_in_mark log ≡ false → a ≡ last_is_entry m s log → a ≡ last_is_step m s log
single_decides m s log a single answer = answer ∙ sym (step_single log single m s)

-- the steps from `end` on have passed
pub record StepsPassed (m s : ℕ) (keys values : List ℕ) (used end : ℕ) : Type 0 where
  pub within : end ≤ used
  pub in_keys : used ≤ length keys
  pub in_values : used ≤ length values
  pub same : is_sound m s (records_of keys values used) ≡ is_sound m s (records_of keys values end)

module _ {m s : ℕ} {keys values : List ℕ} {used end : ℕ} (p : StepsPassed m s keys values used end) where
  answer : {b : Bool} → is_sound m s (records_of keys values end) ≡ b → b ≡ is_sound m s (records_of keys values used)
  answer e = sym (p.same ∙ e)

  -- no record is left
  pub ends : end ≤ 0 → true ≡ is_sound m s (records_of keys values used)
  unfolding paired
  ends h = let none : end ≡ 0 = omega arith in answer (ap (λ n. is_sound m s (records_of keys values n)) none ∙ empty_sound m s)

  module _ (some : 0 < end) where
    has : 0 < length (records_of keys values end)
    has = let size = records-length keys values end (omega arith) (omega arith) in omega arith

    -- what the check of the last step has answered
    module _ {r : Bool} (told : r ≡ last_is_step m s (records_of keys values end)) where
      -- the last records are no step
      pub stops : r ≡ false → false ≡ is_sound m s (records_of keys values used)
      stops e =
          answer
          (sound_step m s (records_of keys values end) has
          ∙ ap (λ b. b && is_sound m s (before_step (records_of keys values end))) (sym told ∙ e))

      module _ (passes : r ≡ true) where
        step : last_is_step m s (records_of keys values end) ≡ true
        step = sym told ∙ passes

        -- they are one
        pub stepped : Stepped keys values end
        stepped = record { m = m; s = s; in_keys = omega arith; in_values = omega arith; step = step }

        module _ (last : LogStep) (found : last ≡ last_step (records_of keys values end)) where
          -- it has places
          pub falls : last.start < end
          falls = start_below keys values end stepped.in_keys stepped.in_values last found some

          -- and is passed
          pub turns : StepsPassed m s keys values used last.start
          turns =
              let less = falls in
              record {
                within = omega arith;
                in_keys = p.in_keys;
                in_values = p.in_values;
                same = p.same
                    ∙ sound_step m s (records_of keys values end) has
                    ∙ ap (λ b. b && is_sound m s (before_step (records_of keys values end))) step
                    ∙ ap (is_sound m s) (before_step_is keys values end stepped.in_keys stepped.in_values last found);
              }

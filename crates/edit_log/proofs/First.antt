-- The walk back to the first step: what is passed leaves the first step what it is, and a step with nothing before it is the first. Rests on StepPlaces.
use Prim.Native.Nat.{ℕ, ◌≤◌, ◌<◌}
use mathlib.Core.Path.{◌≡◌, refl, sym, ap, ◌∙◌}
use mathlib.Core.Bool.{true}
use mathlib.Core.List.{List, ◌++◌}
use native.Mathlib.Omega.{arith}
use lib.ListN.{length, take}
use lib.Seq.{take-length, take-append-le}
use Rattle.keys.proofs.Cases.{equal}
use Rattle.definitions.specs.List.{Record}
use Rattle.definitions.specs.Read.{records_of}
use Rattle.definitions.specs.Log.{group_mark, before_step, last_is_step, is_sound, first_step}
use Rattle.laws.proofs.LastStep.{step_ends, step_before, before_step_less}
use Rattle.laws.proofs.SoundLog.{Steps, none, more, sound_steps, sound_last, sound_before}
use Rattle.laws.proofs.FirstStep.{first_is_last, first_before}
use Rattle.laws.proofs.Records.{records-length}
use Rattle.edit_log.specs.declared.step.LogStep.{LogStep}
use Rattle.edit_log.specs.Steps.{last_step, Stepped, Divided}
use Rattle.edit_log.proofs.StepPlaces.{start_below, before_step_is}

-- records that divide into steps end in one
pub divided_stepped : {keys values : List ℕ} {used : ℕ} → Divided keys values used → Stepped keys values used
divided_stepped {keys} {values} {used} d =
    let size = records-length keys values used d.in_keys d.in_values in
    let some = d.some in
    record {
      m = d.m;
      s = d.s;
      in_keys = d.in_keys;
      in_values = d.in_values;
      step = sound_last d.m d.s (records_of keys values used) d.sound (omega arith);
    }

-- the walk stands at the step that starts at start and has all the records up to end
pub record Walk (keys values : List ℕ) (used end start : ℕ) : Type 0 where
  pub left : Divided keys values end
  pub last : LogStep
  pub found : last ≡ last_step (records_of keys values end)
  pub start_is : start ≡ last.start
  pub same : first_step (records_of keys values used) ≡ first_step (records_of keys values end)

-- at first that is the last step
pub walk_begins : {keys values : List ℕ} {used : ℕ} (last : LogStep) → Divided keys values used → last ≡ last_step (records_of keys values used)
    → Walk keys values used used last.start
walk_begins last d found = record { left = d; last = last; found = found; start_is = refl; same = refl }

module _ {keys values : List ℕ} {used end start : ℕ} (w : Walk keys values used end start) where
  -- a step has places
  pub start_less : start < end
  start_less = let e = w.start_is in let less = start_below keys values end w.left.in_keys w.left.in_values w.last w.found w.left.some in omega arith

  before_is : before_step (records_of keys values end) ≡ records_of keys values start
  before_is = before_step_is keys values end w.left.in_keys w.left.in_values w.last w.found ∙ ap (records_of keys values) (sym w.start_is)

  -- what stands before it divides into steps
  pub walk_left : 0 < start → Divided keys values start
  walk_left some =
      let d = w.left in
      let less = start_less in
      let in_keys = d.in_keys in
      let in_values = d.in_values in
      let size = records-length keys values end in_keys in_values in
      record {
        m = d.m;
        s = d.s;
        in_keys = omega arith;
        in_values = omega arith;
        some = some;
        sound = sym (ap (is_sound d.m d.s) before_is) ∙ sound_before d.m d.s (records_of keys values end) d.sound (omega arith);
      }

  start-length : start ≡ length (before_step (records_of keys values end))
  start-length = w.start_is ∙ ap (λ x. x.start) w.found

  -- the walk goes on to the step before
  pub walk_turns : (last : LogStep) → 0 < start → last ≡ last_step (records_of keys values start) → Walk keys values used start last.start
  walk_turns last some found =
      let e = start-length in
      record {
        left = walk_left some;
        last = last;
        found = found;
        start_is = refl;
        same = w.same ∙ first_before (records_of keys values end) (λ z. omega arith) ∙ ap first_step before_is;
      }

  -- with nothing before, it is the first
  pub walk_ends : (last : LogStep) → start ≤ 0 → last ≡ last_step (records_of keys values end) → last ≡ last_step (first_step (records_of keys values used))
  walk_ends last bare found =
      let e = start-length in
      found ∙ ap last_step (sym (w.same ∙ first_is_last (records_of keys values end) (omega arith)))

-- the first step of a sound log: a step, with nothing before it, and the first records
pub record FirstOf (m s : ℕ) (log : List Record) : Type 0 where
  pub is_step : last_is_step m s (first_step log) ≡ true
  pub alone : length (before_step (first_step log)) ≡ 0
  pub within : length (first_step log) ≤ length log
  pub in_front : first_step log ≡ take (length (first_step log)) log

-- which a log of steps has
first_steps : {m s : ℕ} {log : List Record} → s ≤ group_mark → Steps m s log → 0 < length log → FirstOf m s log
first_steps few none some = absurd (omega arith)
first_steps {m} {s} few (more {log} {step} e is) some =
    let l : List Record = log ++ step in
    let before : before_step l ≡ log = step_before few is log in
    let size = ap length before in
    let less = before_step_less l in
    equal (length log) 0
    (λ alone.
    let same : first_step l ≡ l = first_is_last l (omega arith) in
    record {
      is_step = ap (last_is_step m s) same ∙ step_ends few is log;
      alone = ap (λ x. length (before_step x)) same ∙ size ∙ alone;
      within = let n = ap length same in omega arith;
      in_front = same ∙ sym (take-length l) ∙ ap (λ x. take (length x) l) (sym same);
    })
    (λ others.
    let same : first_step l ≡ first_step log = first_before l (λ z. others (sym size ∙ z)) ∙ ap first_step before in
    let i = first_steps few e (omega arith) in
    record {
      is_step = ap (last_is_step m s) same ∙ i.is_step;
      alone = ap (λ x. length (before_step x)) same ∙ i.alone;
      within = let n = ap length same in let h = i.within in omega arith;
      in_front = same
          ∙ i.in_front
          ∙ sym (take-append-le (length (first_step log)) log step i.within)
          ∙ ap (λ x. take (length x) l) (sym same);
    })

pub first_sound : (m s : ℕ) (log : List Record) → s ≤ group_mark → is_sound m s log ≡ true → 0 < length log → FirstOf m s log
first_sound m s log few sound some = first_steps few (sound_steps m s log sound) some

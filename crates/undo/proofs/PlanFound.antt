-- The plan that was found for what was told of a content, and the length that it tells: those of a content that can be put. Rests on edit's Planned and on
-- list's Taken.
use Prim.Native.Nat.{ℕ, ◌-◌, ◌+◌, ◌*◌, ◌≤◌}
use mathlib.Core.Path.{◌≡◌, ◌∙◌, ap, ap₂}
use mathlib.Core.List.{List}
use native.Mathlib.Omega.{arith}
use lib.ListN.{length}
use Rattle.std.specs.Prelude.{Option}
use Rattle.definitions.specs.List.{Record}
use Rattle.definitions.specs.Read.{records_of}
use Rattle.list.specs.declared.accepted_list.Accepted.{Accepted}
use Rattle.list.specs.Taken.{Taken}
use Rattle.list.proofs.Taken.{taken_length, taken_records}
use Rattle.replace.specs.Put.{top_with, plan_at}
use Rattle.replace.specs.declared.plan.Plan.{Plan}
use Rattle.edit.proofs.Planned.{Planned, old_there, few_levels, length-told}
use Rattle.undo.specs.Planning.{plan_told, length_told}

module _ {m n : ℕ} {keys bits : List ℕ} {former : Accepted} (was : Taken m keys bits n former) (κ count : ℕ) (one : Option ℕ) where
  pub plan_taken : plan_told former κ one ≡ plan_at m (records_of keys bits n) κ (top_with m (records_of keys bits n) κ one)
  plan_taken = ap₂ (λ k l. plan_at k l κ (top_with k l κ one)) was.map (taken_records was)

  module _ {content new : List Record} {plan : Plan} (a : Planned m keys bits n κ content new plan)
      (is : plan_at m (records_of keys bits n) κ (top_with m (records_of keys bits n) κ one) ≡ plan) where
    -- its numbers are small
    pub plan_small : ((plan_told former κ one).old ≤ length former.keys.now) × ((plan_told former κ one).levels ≤ 10)
    plan_small =
        let old = ap (λ p. p.old) (plan_taken ∙ is) in
        let levels = ap (λ p. p.levels) (plan_taken ∙ is) in
        let size = taken_length was in
        (omega (arith, old_there a), omega (arith, few_levels a))

    -- and tell the length of the new list
    pub length_taken : count ≡ length content → length_told former κ count one ≡ length new
    length_taken size = ap₂ (λ k p. k - p.old + (4 * p.levels + count)) (taken_length was) (plan_taken ∙ is) ∙ length-told a count size

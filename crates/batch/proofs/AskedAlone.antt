-- A batch is as good as its questions asked alone: in an accepted batch the answer at a question's place is that of the clipped call on the same list.
-- Rests on laws' OneByOne.
use Prim.Native.Nat.{ℕ, zero, suc, ◌≤◌, ◌<◌}
use mathlib.Core.Path.{◌≡◌, refl, ap, ◌∙◌}
use mathlib.Core.List.{List, [], ◌∷◌, map}
use native.Mathlib.Omega.{arith}
use lib.ListN.{length, get_or, drop, length-map, length-append}
use Rattle.definitions.specs.Buffer.{over}
use Rattle.definitions.specs.Calls.Clipped.{exist_clipped, report_clipped}
use Rattle.definitions.specs.Calls.Batch.{refusal_to, value_to, batch_refusal, batch_refusals, batch_values}
use Rattle.definitions.specs.declared.Question.{Question}
use Rattle.laws.proofs.First.{accepted_done}
use Rattle.laws.proofs.OneByOne.{no_question, asks_exist, asks_report, refusal_at, value-at}

-- within a list it does not matter what would stand past its end
any_default : (l : List ℕ) (i a b : ℕ) → i < length l → get_or l i a ≡ get_or l i b
any_default [] i a b h = absurd (omega arith)
any_default (x ∷ l) zero a b h = refl
any_default (x ∷ l) (suc i) a b h = any_default l i a b (omega arith)

-- what stands over old content is as long as the new, or longer
over_long : (f : Question → ℕ) (questions : List Question) (old : List ℕ) → length questions ≤ length (over (map f questions) old)
over_long f questions old =
    let e = length-map questions f in
    let a = length-append (map f questions) (drop (length (map f questions)) old) in
    omega arith

module _ (m s : ℕ) (keys bits : List ℕ) (n : ℕ) (questions : List Question) (refusals values : List ℕ)
    (none : batch_refusal m s keys bits n questions refusals values ≡ 0) (i : ℕ) (asked : i < length questions) where
  abbrev q : Question
  q = get_or questions i no_question

  refusals_long : i < length (batch_refusals m s keys bits n questions refusals values)
  unfolding batch_refusals
  refusals_long =
      let e = ap length (accepted_done (over (map (refusal_to m s keys bits n) questions) refusals) refusals none) in
      let h = over_long (refusal_to m s keys bits n) questions refusals in
      omega arith

  values_long : i < length (batch_values m s keys bits n questions refusals values)
  unfolding batch_values
  values_long =
      let e = ap length (accepted_done (over (map (value_to m s keys bits n) questions) values) values none) in
      let h = over_long (value_to m s keys bits n) questions values in
      omega arith

  refusal_there : get_or (batch_refusals m s keys bits n questions refusals values) i 0 ≡ refusal_to m s keys bits n q
  refusal_there =
      any_default (batch_refusals m s keys bits n questions refusals values) i 0 (refusal_to m s keys bits n no_question) refusals_long
      ∙ refusal_at m s keys bits n questions refusals values none i asked

  value_there : get_or (batch_values m s keys bits n questions refusals values) i 0 ≡ value_to m s keys bits n q
  value_there =
      any_default (batch_values m s keys bits n questions refusals values) i 0 (value_to m s keys bits n no_question) values_long
      ∙ value-at m s keys bits n questions refusals values none i asked

  -- a question that asks exist has exist's answer at its place
  pub exist_alone : q.report ≡ 0
      → (get_or (batch_refusals m s keys bits n questions refusals values) i 0 ≡ (exist_clipped m s keys bits n q.row q.column q.height q.width q.feature).refusal)
      × (get_or (batch_values m s keys bits n questions refusals values) i 0 ≡ (exist_clipped m s keys bits n q.row q.column q.height q.width q.feature).yes)
  exist_alone e = let a = asks_exist m s keys bits n q e in (refusal_there ∙ a.0, value_there ∙ a.1)

  -- and any other report's
  pub report_alone : (q.report ≡ 0 → ⊥)
      → (get_or (batch_refusals m s keys bits n questions refusals values) i 0 ≡ (report_clipped m s keys bits n q.row q.column q.height q.width).refusal)
      × (get_or (batch_values m s keys bits n questions refusals values) i 0 ≡ (report_clipped m s keys bits n q.row q.column q.height q.width).bits)
  report_alone e = let a = asks_report m s keys bits n q e in (refusal_there ∙ a.0, value_there ∙ a.1)

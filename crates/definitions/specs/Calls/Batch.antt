-- Batch (specification S9): a run of questions is asked of one list, which is checked once. Refusals 1, 4, 12. At each question's place the two
-- answer slices take the refusal and the value of the clipped single call; so a bad question stops no other. Rests on Clipped.
use Rattle.std.specs.Prelude.{ℕ, cond, List, [], ◌∷◌, map, length, ltb, eqb}
use Rattle.definitions.specs.Read.{room}
use Rattle.definitions.specs.Buffer.{over}
use Rattle.definitions.specs.Refusal.{◌gives◌, first, accepted, bad_settings, no_list}
use Rattle.definitions.specs.Calls.Clipped.{exist_clipped, report_clipped}
use Rattle.definitions.specs.declared.Question.{Question}
use Rattle.definitions.specs.declared.Counted.{Counted}

module _ (m s : ℕ) (keys bits : List ℕ) (n : ℕ) where
  -- a question whose report is 0 asks exist, any other asks report, which looks at no feature
  unfoldable pub refusal_to : Question → ℕ
  refusal_to q =
      cond (eqb q.report 0)
      (exist_clipped m s keys bits n q.row q.column q.height q.width q.feature).refusal
      (report_clipped m s keys bits n q.row q.column q.height q.width).refusal

  -- yes is 1
  unfoldable pub value_to : Question → ℕ
  value_to q =
      cond (eqb q.report 0)
      (exist_clipped m s keys bits n q.row q.column q.height q.width q.feature).yes
      (report_clipped m s keys bits n q.row q.column q.height q.width).bits

  module _ (questions : List Question) (refusals values : List ℕ) where
    unfoldable pub batch_refusal : ℕ
    batch_refusal =
        first
        (bad_settings m s gives 1
        ∷ no_list m s keys bits n gives 4
        ∷ ltb (room refusals values) (length questions) gives 12
        ∷ [])

    -- with 12 the count is the number of places needed: the questions too
    unfoldable pub batch : Counted
    batch =
        record {
          refusal = batch_refusal;
          count = accepted batch_refusal (length questions) (cond (eqb batch_refusal 12) (length questions) 0);
        }

    unfoldable pub batch_refusals : List ℕ
    batch_refusals = accepted batch_refusal (over (map refusal_to questions) refusals) refusals

    unfoldable pub batch_values : List ℕ
    batch_values = accepted batch_refusal (over (map value_to questions) values) values

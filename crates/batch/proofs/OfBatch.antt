-- What a batch answers has one of its four numbers, with the count that C is told beside it. Rests on the laws of tables.
use Prim.Native.Nat.{ℕ}
use mathlib.Core.Path.{◌≡◌, refl, ap, ◌∙◌}
use mathlib.Core.Bool.{Bool, true, false, cond}
use mathlib.Core.List.{List, [], ◌∷◌}
use lib.ListN.{length}
use lib.Dec.{ltb, eqb}
use borrow.Author.Tests.{ne_eqb}
use Rattle.definitions.specs.Read.{room}
use Rattle.definitions.specs.Refusal.{Row, ◌gives◌, first, bad_settings, no_list}
use Rattle.definitions.specs.Calls.Batch.{batch_refusal, batch}
use Rattle.definitions.specs.declared.Question.{Question}
use Rattle.laws.proofs.First.{accepted_left}
use Rattle.batch.specs.Run.{is_batch_number, OfBatch}

-- one row more, whose number is one of them
one_row : (test : Bool) (number : ℕ) (rows : List Row) → is_batch_number number ≡ true → is_batch_number (first rows) ≡ true
    → is_batch_number (first (test gives number ∷ rows)) ≡ true
unfolding first
one_row true number rows e f = e
one_row false number rows e f = f

no_row : is_batch_number (first []) ≡ true
unfolding first
no_row = refl

module _ (m s : ℕ) (keys bits : List ℕ) (n : ℕ) (questions : List Question) (refusals values : List ℕ) where
  abbrev refusal : ℕ
  refusal = batch_refusal m s keys bits n questions refusals values

  one_of : is_batch_number refusal ≡ true
  unfolding batch_refusal
  one_of =
      one_row (bad_settings m s) 1 _ refl
      (one_row (no_list m s keys bits n) 4 _ refl
      (one_row (ltb (room refusals values) (length questions)) 12 _ refl no_row))

  pub of_batch : OfBatch (batch m s keys bits n questions refusals values)
  unfolding batch
  of_batch =
      record {
        number = one_of;
        places = λ not-zero not_full.
            accepted_left (length questions) (cond (eqb refusal 12) (length questions) 0) not-zero ∙ ap (λ t. cond t (length questions) 0) (ne_eqb refusal 12 not_full);
      }

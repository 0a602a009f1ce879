-- What the passing functions of the check answer, as Option, from what they answer as a place or 0. Rests on Turn.
use Prim.Native.Nat.{ℕ, ◌≤◌, ◌<◌}
use mathlib.Core.Path.{◌≡◌, refl, sym}
use mathlib.Core.List.{List}
use native.Mathlib.Omega.{arith}
use borrow.Author.Rules.{rules}
use lib.ListN.{length}
use borrow.Author.Tests.{ne_eqb}
use lib.Dec.{eqb}
use Rattle.std.specs.Prelude.{Option, Some, None, unwrap_or}
use Rattle.std.specs.Option.{option_eq}
use Rattle.list.specs.After.{AfterNode}
use Rattle.list.proofs.Turn.{Answer}

module _ {K B : List ℕ} {first key own step : ℕ} where
  pub none_after : Answer K B first key own step 0 → AfterNode K B first key own step None
  none_after a = record { within = omega arith; past = λ place e. absurd (search rules); checked = a }

  pub some_after : (place : ℕ) → place ≤ length K → 0 < place → Answer K B first key own step place → AfterNode K B first key own step (Some place)
  some_after place within past a = record { within = within; past = λ other e. let same : place ≡ other = cc in omega arith; checked = a }

  -- what is answered at the step 5 is answered at a step that is 5
  pub at_five : {answer : Option ℕ} → step ≡ 5 → AfterNode K B first key own 5 answer → AfterNode K B first key own step answer
  at_five five a = rw five a

-- the test of an answer: where there is no place, the check's is 0, and so not that of some records
pub answer_is : (answer : Option ℕ) (n : ℕ) → (n ≡ 0 → ⊥) → option_eq eqb answer (Some n) ≡ eqb (unwrap_or answer 0) n
answer_is None n some = sym (ne_eqb 0 n (λ e. some (sym e)))
answer_is (Some place) n some = refl

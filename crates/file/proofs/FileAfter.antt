-- What the passing functions of the check answer, as Option, from what they answer as a place or 0. Rests on FileTurn.
use Prim.Native.Nat.{ℕ, ◌<◌}
use mathlib.Core.Path.{◌≡◌}
use mathlib.Core.List.{List}
use native.Mathlib.Omega.{arith}
use borrow.Author.Rules.{rules}
use Rattle.std.specs.Prelude.{Option, Some, None, unwrap_or}
use Rattle.file.specs.After.{AfterNodeIn}
use Rattle.file.proofs.FileTurn.{TurnAnswered}

module _ {w n : ℕ} {file : List ℕ} {first key own step : ℕ} where
  pub none_after_in : TurnAnswered w n file first key own step 0 → AfterNodeIn w n file first key own step None
  none_after_in a = record { within = a.0; past = λ place e. absurd (search rules); checked = a.1 }

  pub some_after_in : (place : ℕ) → 0 < place → TurnAnswered w n file first key own step place → AfterNodeIn w n file first key own step (Some place)
  some_after_in place past a = record { within = a.0; past = λ other e. let same : place ≡ other = cc in omega arith; checked = a.1 }

  -- and back
  pub answered_in : {answer : Option ℕ} → AfterNodeIn w n file first key own step answer → TurnAnswered w n file first key own step (unwrap_or answer 0)
  answered_in a = (a.within, a.checked)

  -- what is answered at one step is answered at a step that is the same
  pub same_step : {other : ℕ} {answer : Option ℕ} → step ≡ other → AfterNodeIn w n file first key own other answer → AfterNodeIn w n file first key own step answer
  same_step e a = rw e a

-- Numbers stored in a slice from its first place on stand over the old content, and the places past them stay. Rests on the laws of lists.
use Prim.Native.Nat.{ℕ, ◌≤◌}
use mathlib.Core.Path.{◌≡◌, ap, ◌∙◌}
use mathlib.Core.List.{List, ◌++◌}
use native.Mathlib.Nat.{zero-add}
use native.Mathlib.Omega.{arith}
use lib.ListN.{length, drop}
use lib.Seq.{sets, sets-eq, drop_at}
use Rattle.definitions.specs.Buffer.{over}

pub sets_over : (new old : List ℕ) → length new ≤ length old → sets old 0 new ≡ over new old
sets_over new old h = sets-eq new old 0 (omega arith) ∙ ap (λ k. new ++ drop k old) (zero-add (length new))

-- the places past what is laid over a slice stay
pub past_over : (new old : List ℕ) (n : ℕ) → length new ≡ n → drop n (over new old) ≡ drop n old
past_over new old n e = drop_at new (drop (length new) old) n e ∙ ap (λ k. drop k old) e

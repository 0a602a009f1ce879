-- `fill::corner_of`: the quadrants in their order.
use Prim.Native.Nat.{ℕ, zero, suc, ◌+◌}
use Rattle.std.proofs.Common.{◌≡◌, refl, arith}
use Rattle.read.specs.Fill.{corner_of}
use Rattle.read.proofs.fill.corner_of.Goals as goal

is_zero : (d place half south : ℕ) → d ≡ 0 → place ≡ corner_of d place half south
unfolding corner_of
is_zero d place half south e = rw e

is_one : (d place half south : ℕ) → d ≡ 1 → place + half ≡ corner_of d place half south
unfolding corner_of
is_one d place half south e = rw e

is_two : (d place half south : ℕ) → d ≡ 2 → place + south ≡ corner_of d place half south
unfolding corner_of
is_two d place half south e = rw e

is_more : (d place half south : ℕ) → (d ≡ 0 → ⊥) → (d ≡ 1 → ⊥) → (d ≡ 2 → ⊥) → place + south + half ≡ corner_of d place half south
unfolding corner_of
is_more zero place half south a b c = absurd (a refl)
is_more (suc zero) place half south a b c = absurd (b refl)
is_more (suc (suc zero)) place half south a b c = absurd (c refl)
is_more (suc (suc (suc d))) place half south a b c = refl

pub returns-in-0 : goal.returns-in-0
returns-in-0 c = is_zero _ _ _ _ (omega arith)

pub returns-in-1 : goal.returns-in-1
returns-in-1 c = is_one _ _ _ _ (omega arith)

pub returns-in-2 : goal.returns-in-2
returns-in-2 c = is_two _ _ _ _ (omega arith)

pub returns-in_default : goal.returns-in_default
returns-in_default c = is_more _ _ _ _ (λ z. omega arith) (λ z. omega arith) (λ z. omega arith)

-- `bits_left` meets its contract: one record, or more.
use Prim.Native.Nat.{ℕ}
use mathlib.Core.Path.{◌≡◌, refl}
use mathlib.Core.Bool.{cond}
use lib.Dec.{eqb}
use borrow.Author.Tests.{eq-eqb, ne_eqb}
use Rattle.apply_deed.proofs.shrink.bits_left.Goals as goal

one : (count bits own : ℕ) → count ≡ 1 → bits ≡ cond (eqb count 1) bits own
one count bits own e = rw (eq-eqb count 1 e) refl

more : (count bits own : ℕ) → (count ≡ 1 → ⊥) → own ≡ cond (eqb count 1) bits own
more count bits own e = rw (ne_eqb count 1 e) refl

pub returns-then-tally-eq1 : goal.returns-then-tally-eq1
returns-then-tally-eq1 c = one _ _ _ c.if-tally-eq1.true

pub returns-else-tally-eq1 : goal.returns-else-tally-eq1
returns-else-tally-eq1 c = more _ _ _ c.if-tally-eq1.false

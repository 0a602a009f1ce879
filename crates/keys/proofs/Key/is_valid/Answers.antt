-- `Key::is_valid` meets its contract: the root is a block, a number of more than m digits is no key, and of another its zeros tell.
use Prim.Native.Nat.{ℕ, ◌^◌, ◌≤◌}
use mathlib.Core.Path.{◌≡◌, sym, ap, ◌∙◌}
use mathlib.Core.Bool.{true, false}
use native.Mathlib.Omega.{arith}
use borrow.Author.Tests.{le-ltb}
use Rattle.keys.specs.Key.{valid_key}
use Rattle.keys.specs.Under.{here}
use Rattle.keys.proofs.Valid.{block_valid}
use Rattle.keys.proofs.Key.is_valid.Goals as goal

too_large : (m κ : ℕ) → 5 ^ m ≤ κ → false ≡ valid_key m κ
unfolding valid_key
too_large m κ h = simp (le-ltb κ (5 ^ m) h)

-- the root is a block
root : (m κ : ℕ) → κ ≡ 0 → true ≡ valid_key m κ
root m κ e = sym (ap (valid_key m) e ∙ (block_valid {m = m} {k = m} {r = 0} {c = 0} {κ = 0} here).valid)

pub returns-then-self-eq0 : goal.returns-then-self-eq0
returns-then-self-eq0 c = root _ _ c.if-self-eq0.true

pub returns-then-power_of_five-self : goal.returns-then-power_of_five-self
returns-then-power_of_five-self c = too_large _ _ (omega arith)

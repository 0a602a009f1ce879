-- Powers of five and of two: none is 0, and they stay small at the levels that a map has. Rests on Key, for the height of a block.
use Prim.Native.Nat.{ℕ, ◌+◌, ◌-◌, ◌*◌, ◌^◌, ◌≤◌, ◌<◌}
use mathlib.Core.Path.{◌≡◌, sym, ap, ◌∙◌}
use native.Mathlib.Omega.{arith}
use native.Mathlib.Nat.{pow-suc, pow-le-pow_right}
use native.Mathlib.Numerals.{add-one}
use lib.Dec.{lit<}
use Rattle.keys.specs.Key.{height_of}

pub five_le : {k : ℕ} (j : ℕ) → k ≤ j → 5 ^ k ≤ 5 ^ j
five_le j h = pow-le-pow_right (lit< tt) h

pub two_le : {k : ℕ} (j : ℕ) → k ≤ j → 2 ^ k ≤ 2 ^ j
two_le j h = pow-le-pow_right (lit< tt) h

pub five_pos : (k : ℕ) → 0 < 5 ^ k
five_pos k = pow-le-pow_right {n = 5} (lit< tt) {i = 0} {j = k} Prim.Native.Nat.zero-le

pub two_pos : (k : ℕ) → 0 < 2 ^ k
two_pos k = pow-le-pow_right {n = 2} (lit< tt) {i = 0} {j = k} Prim.Native.Nat.zero-le

pub five_next : (x k : ℕ) → x ≡ 5 ^ k → x * 5 ≡ 5 ^ (k + 1)
five_next x k e = ap (λ y. y * 5) e ∙ sym (ap (λ j. 5 ^ j) (add-one k) ∙ pow-suc 5 k)

-- a block's height is at most m
pub height_le : (m κ : ℕ) → height_of m κ ≤ m
unfolding height_of
height_le m κ = omega arith

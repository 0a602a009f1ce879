-- Going down from the root a level a turn: after i of m turns the power of the m - i levels that are left, and one level of a key's
-- digits and of a pixel's key. Rests on Powers.
use Prim.Native.Nat.{ℕ, suc, ◌+◌, ◌-◌, ◌*◌, ◌/◌, ◌%◌, ◌^◌, ◌≤◌, ◌<◌}
use mathlib.Core.Path.{◌≡◌, sym, ap, ◌∙◌}
use native.Mathlib.Omega.{arith}
use native.Mathlib.Nat.{pow-suc, mul-div_cancel, div-eq_of_lt, div-lt_iff_lt-mul}
use borrow.Author.Tests.{lt-ltb, le-ltb, eq-eqb, ne_eqb}
use Rattle.keys.specs.Key.{digits_of, digits_before_zero}
use Rattle.keys.specs.Block.{pixel_key, quadrant_digit, in_quadrant}
use Rattle.keys.proofs.Cases.{split}
use Rattle.keys.proofs.Powers.{five_pos}

-- the levels left before a turn are one more than after it
pub one_less : (m i : ℕ) → i < m → m - i ≡ suc (m - (i + 1))
one_less m i h = omega arith

-- a power, divided by its base, loses a level
pub power_down : (b m i x : ℕ) → 0 < b → i < m → x ≡ b ^ (m - i) → x / b ≡ b ^ (m - (i + 1))
power_down b m i x pos h e =
    ap (λ (y : ℕ). y / b) (e ∙ ap (λ (k : ℕ). b ^ k) (one_less m i h) ∙ pow-suc b (m - (i + 1))) ∙ mul-div_cancel (b ^ (m - (i + 1))) pos

-- and is its base times what is left
pub power_whole : (b m i x : ℕ) → 0 < b → i < m → x ≡ b ^ (m - i) → x ≡ x / b * b
power_whole b m i x pos h e =
    e ∙ ap (λ (k : ℕ). b ^ k) (one_less m i h) ∙ pow-suc b (m - (i + 1)) ∙ ap (λ (y : ℕ). y * b) (sym (power_down b m i x pos h e))

-- a quotient is not 0 where the divisor fits
pub quotient_not_zero : (x d : ℕ) → 0 < d → d ≤ x → x / d ≡ 0 → ⊥
quotient_not_zero x d pos h e =
    let below : x < 1 * d = (div-lt_iff_lt-mul pos).0 (omega arith) in
    omega arith

pub level_stops : (k x : ℕ) → x < 5 ^ k → digits_before_zero (digits_of (suc k) x) ≡ 0
unfolding digits_of digits_before_zero
level_stops k x h = simp (eq-eqb (x / 5 ^ k) 0 (div-eq_of_lt h))

pub level_goes : (k x : ℕ) → 5 ^ k ≤ x → digits_before_zero (digits_of (suc k) x) ≡ suc (digits_before_zero (digits_of k (x % 5 ^ k)))
unfolding digits_of digits_before_zero
level_goes k x h = simp (ne_eqb (x / 5 ^ k) 0 (quotient_not_zero x (5 ^ k) (five_pos k) h))

-- one level of a pixel's key
pub pixel_goes : (k row column : ℕ)
    → pixel_key (suc k) row column ≡ quadrant_digit (2 ^ k) row column * 5 ^ k + pixel_key k (in_quadrant (2 ^ k) row) (in_quadrant (2 ^ k) column)
unfolding pixel_key
pixel_goes k row column =
    split row (2 ^ k)
    (λ n. split column (2 ^ k) (λ w. simp (lt-ltb _ _ n, lt-ltb _ _ w)) (λ e. simp (lt-ltb _ _ n, le-ltb _ _ e)))
    (λ s. split column (2 ^ k) (λ w. simp (le-ltb _ _ s, lt-ltb _ _ w)) (λ e. simp (le-ltb _ _ s, le-ltb _ _ e)))

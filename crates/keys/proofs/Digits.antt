-- Digits, row, column, level and height of a key d * 5 ^ k + x with x < 5 ^ k: what the first digit d gives, and then what x gives.
-- Rests on division by a power of five.
use Prim.Native.Nat.{ℕ, zero, suc, ◌+◌, ◌*◌, ◌/◌, ◌%◌, ◌^◌, ◌≤◌, ◌<◌}
use native.Mathlib.Nat.{pow-suc, div-add-mod', mod-lt, div-lt_iff_lt-mul, zero-add}
use native.Mathlib.Omega.{arith}
use mathlib.Core.Path.{◌≡◌, refl, sym, ap, ap₂, ◌∙◌}
use mathlib.Core.Bool.{Bool, true, cond, ◌&&◌}
use mathlib.Core.List.{◌∷◌}
use lib.Dec.{eqb}
use lib.Arith.{digits_div, digits_mod}
use borrow.Author.Tests.{eqb-true, eq-eqb, ne_eqb}
use Rattle.keys.specs.Key.{digits_of, only_zeros, digits_then_zeros, digits_before_zero, level_of, height_of}
use Rattle.keys.specs.Block.{is_south, is_east, row_of, column_of}
use Rattle.keys.proofs.Cases.{decide, and_left, and_right}
use Rattle.keys.proofs.Powers.{five_pos}

-- a number below 5 ^ (k + 1) is a digit below 5 and the rest
pub record Split (k x : ℕ) : Type 0 where
  pub digit : ℕ
  pub rest : ℕ
  pub is_digit : digit < 5
  pub is_rest : rest < 5 ^ k
  pub sum : x ≡ digit * 5 ^ k + rest

-- every number below 5 ^ (k + 1) splits so
pub split_digit : (k x : ℕ) → x < 5 ^ suc k → Split k x
split_digit k x below =
    let e = pow-suc 5 k in
    let f = (div-lt_iff_lt-mul {x = x} {y = 5} (five_pos k)).1 (omega arith) in
    record { digit = x / 5 ^ k; rest = x % 5 ^ k; is_digit = f; is_rest = mod-lt x (five_pos k); sum = sym (div-add-mod' x (5 ^ k)) }

-- the digits of a key are d digits from 1 to 4 and then zeros
abbrev pub valid_digits : ℕ → ℕ → Bool
valid_digits k x = digits_then_zeros (digits_of k x)

module _ (k d : ℕ) {x : ℕ} (below : x < 5 ^ k) where
  -- the digits: d, and those of the rest
  pub digits_suc : digits_of (suc k) (d * 5 ^ k + x) ≡ d ∷ digits_of k x
  unfolding digits_of
  digits_suc = rw (digits_div d below, digits_mod d below)

  -- the first row: a southern digit adds a quadrant's side
  pub row_suc : row_of (suc k) (d * 5 ^ k + x) ≡ cond (is_south d) (2 ^ k) 0 + row_of k x
  unfolding row_of
  row_suc = rw (digits_div d below, digits_mod d below)

  -- the first column: an eastern digit adds a quadrant's side
  pub column_suc : column_of (suc k) (d * 5 ^ k + x) ≡ cond (is_east d) (2 ^ k) 0 + column_of k x
  unfolding column_of
  column_suc = rw (digits_div d below, digits_mod d below)

  -- the level: none at a zero, else one more than that of the rest
  pub level_suc : level_of (suc k) (d * 5 ^ k + x) ≡ cond (eqb d 0) 0 (suc (level_of k x))
  unfolding level_of digits_before_zero
  level_suc = ap digits_before_zero digits_suc

  -- under a digit that is not zero the height is that of the rest
  pub height_digit : (d ≡ 0 → ⊥) → height_of (suc k) (d * 5 ^ k + x) ≡ height_of k x
  unfolding height_of
  height_digit other = let e : level_of (suc k) (d * 5 ^ k + x) ≡ suc (level_of k x) = rw (level_suc, ne_eqb d 0 other) in omega arith

  -- all digits are zeros: this one, and those of the rest
  pub only_zeros_suc : only_zeros (digits_of (suc k) (d * 5 ^ k + x)) ≡ eqb d 0 && only_zeros (digits_of k x)
  unfolding only_zeros
  only_zeros_suc = ap only_zeros digits_suc

  -- the digits are valid: zeros after a zero, else valid digits after this one
  pub valid_suc : valid_digits (suc k) (d * 5 ^ k + x) ≡ cond (eqb d 0) (only_zeros (digits_of k x)) (valid_digits k x)
  unfolding digits_then_zeros
  valid_suc = ap digits_then_zeros digits_suc

  -- a digit that is not zero stands before valid digits
  pub valid_digit : (d ≡ 0 → ⊥) → valid_digits (suc k) (d * 5 ^ k + x) ≡ valid_digits k x
  valid_digit other = rw (valid_suc, ne_eqb d 0 other)

  -- after a digit that is zero come zeros
  pub valid_zero : d ≡ 0 → valid_digits (suc k) (d * 5 ^ k + x) ≡ only_zeros (digits_of k x)
  valid_zero none = rw (valid_suc, eq-eqb d 0 none)

no_digits : (k : ℕ) → 0 ≡ 0 * 5 ^ k + 0
no_digits k = omega arith

-- the root's digits are zeros
pub zeros : (k : ℕ) → only_zeros (digits_of k 0) ≡ true
unfolding only_zeros digits_of
zeros zero = refl
zeros (suc k) = ap (λ x. only_zeros (digits_of (suc k) x)) (no_digits k) ∙ only_zeros_suc k 0 (five_pos k) ∙ zeros k

-- and only the root's
pub zeros_only : (k x : ℕ) → x < 5 ^ k → only_zeros (digits_of k x) ≡ true → x ≡ 0
zeros_only zero x below e = omega arith
zeros_only (suc k) x below e =
    let s = split_digit k x below in
    let f = sym (only_zeros_suc k s.digit s.is_rest) ∙ ap (λ y. only_zeros (digits_of (suc k) y)) (sym s.sum) ∙ e in
    let g = eqb-true s.digit 0 (and_left _ _ f) in
    let h = zeros_only k s.rest s.is_rest (and_right (eqb s.digit 0) _ f) in
    s.sum ∙ ap₂ (λ d y. d * 5 ^ k + y) g h ∙ sym (no_digits k)

-- the root's first row is 0
pub row_zero : (k : ℕ) → row_of k 0 ≡ 0
unfolding row_of
row_zero zero = refl
row_zero (suc k) = ap (row_of (suc k)) (no_digits k) ∙ row_suc k 0 (five_pos k) ∙ zero-add (row_of k 0) ∙ row_zero k

-- the root's first column is 0
pub column_zero : (k : ℕ) → column_of k 0 ≡ 0
unfolding column_of
column_zero zero = refl
column_zero (suc k) = ap (column_of (suc k)) (no_digits k) ∙ column_suc k 0 (five_pos k) ∙ zero-add (column_of k 0) ∙ column_zero k

-- the root's level is 0
pub level_zero : (k : ℕ) → level_of k 0 ≡ 0
unfolding level_of digits_of digits_before_zero
level_zero zero = refl
level_zero (suc k) = ap (level_of (suc k)) (no_digits k) ∙ level_suc k 0 (five_pos k)

-- the root's height is all levels
pub height_zero : (k : ℕ) → height_of k 0 ≡ k
unfolding height_of
height_zero k = let e = level_zero k in omega arith

-- a level is at most the number of digits
pub level_most : (k x : ℕ) → level_of k x ≤ k
unfolding level_of digits_of digits_before_zero
level_most zero x = omega arith
level_most (suc k) x =
    let e = level_most k (x % 5 ^ k) in
    decide (eqb (x / 5 ^ k) 0) (λ none. rw none (omega arith)) (λ some. rw some (omega arith))

-- a level and the height together are all levels
pub level_height : (k x : ℕ) → level_of k x + height_of k x ≡ k
unfolding height_of
level_height k x = let e = level_most k x in omega arith

-- The numbers of a summary's blocks: how many there are at each m, how many pixels each has, and the key of each as the code works it out. Rests on
-- laws' SummaryOf.
use Prim.Native.Nat.{ℕ, ◌+◌, ◌-◌, ◌*◌, ◌/◌, ◌%◌, ◌^◌, ◌≤◌, ◌<◌}
use mathlib.Core.Path.{◌≡◌, sym, ◌∙◌, ap, ap₂}
use mathlib.Core.Bool.{true}
use native.Mathlib.Nat.{pow-suc, add-zero, add-mul, mul_comm, mul_assoc, mul-le-mul, pow-le-pow_right}
use native.Mathlib.Numerals.{add-one}
use native.Mathlib.Omega.{arith}
use lib.Dec.{lit<}
use Rattle.keys.specs.Key.{valid_key, height_of}
use Rattle.keys.proofs.Powers.{five_le}
use Rattle.keys.proofs.Valid.{block_valid}
use Rattle.definitions.specs.Area.{summary_level, summary_height, key_below, block_key}
use Rattle.laws.proofs.PixelSums.{squared}
use Rattle.laws.proofs.SummaryOf.{summary_block}

-- how many blocks
module _ (m : ℕ) where
  pub number_none : m ≡ 0 → 1 ≡ 4 ^ summary_level m
  number_none e = let l : summary_level m ≡ 0 = omega arith in sym (ap (λ x. 4 ^ x) l)

  pub number_one : m ≡ 1 → 4 ≡ 4 ^ summary_level m
  number_one e = let l : summary_level m ≡ 1 = omega arith in sym (ap (λ x. 4 ^ x) l)

  pub number_two : 2 ≤ m → 16 ≡ 4 ^ summary_level m
  number_two h = let l : summary_level m ≡ 2 = omega arith in sym (ap (λ x. 4 ^ x) l)

  pub number_most : 4 ^ summary_level m ≤ 16
  number_most = pow-le-pow_right {n = 4} (lit< tt) {i = summary_level m} {j = 2} (omega arith)

  -- how many pixels each has
  pub area_one : m < 2 → 1 ≡ 4 ^ summary_height m
  area_one h = let l : summary_height m ≡ 0 = omega arith in sym (ap (λ x. 4 ^ x) l)

  -- how many keys the interval of each has
  pub step_one : m < 2 → 1 ≡ 5 ^ summary_height m
  step_one h = let l : summary_height m ≡ 0 = omega arith in sym (ap (λ x. 5 ^ x) l)

  module _ (side : ℕ) (e : side ≡ 2 ^ (m - 2)) (h : 2 ≤ m) where
    pub area_many : side * side ≡ 4 ^ summary_height m
    area_many = let l : m - 2 ≡ summary_height m = omega arith in ap (λ x. x * x) e ∙ squared (m - 2) ∙ ap (λ x. 4 ^ x) l

    pub area_fits : m ≤ 10 → side * side < 2 ^ 32
    area_fits deep =
        let f = area_many in
        let b = pow-le-pow_right {n = 4} (lit< tt) {i = summary_height m} {j = 10} (omega arith) in
        omega arith

-- the key of block number b
pub key_none : (m b : ℕ) → m ≡ 0 → 0 ≡ block_key m b
unfolding block_key key_below
key_none m b e = let l : summary_level m ≡ 0 = omega arith in sym (ap (λ x. key_below (summary_height m) x b) l)

one_digit : (b : ℕ) → key_below 0 1 b ≡ b + 1
unfolding key_below
one_digit b = omega arith

pub key_one : (m b : ℕ) → m ≡ 1 → b + 1 ≡ block_key m b
unfolding block_key
key_one m b e =
    let l : summary_level m ≡ 1 = omega arith in
    let h : summary_height m ≡ 0 = omega arith in
    sym (ap₂ (λ x y. key_below x y b) h l ∙ one_digit b)

two_products : (q x y : ℕ) → (q + 1) * (y * 5) + ((x + 1) * y + 0) ≡ (q * 5 + x + 6) * y
two_products q x y =
    ap (λ z. (q + 1) * z + ((x + 1) * y + 0)) (mul_comm y 5)
    ∙ ap (λ z. z + ((x + 1) * y + 0)) (sym (mul_assoc (q + 1) 5 y))
    ∙ ap (λ z. (q + 1) * 5 * y + z) (add-zero ((x + 1) * y))
    ∙ sym (add-mul ((q + 1) * 5) (x + 1) y)
    ∙ ap (λ z. z * y) (omega arith)

two_digits : (k b : ℕ) → key_below k 2 b ≡ (b / 4 * 5 + b % 4 + 6) * 5 ^ k
unfolding key_below
two_digits k b =
    let last : b % 4 / 1 ≡ b % 4 = omega arith in
    ap₂ (λ x y. (b / 4 + 1) * x + ((b % 4 / 1 + 1) * y + 0)) (ap (λ x. 5 ^ x) (add-one k) ∙ pow-suc 5 k) (ap (λ x. 5 ^ x) (add-zero k))
    ∙ ap (λ x. (b / 4 + 1) * (5 ^ k * 5) + ((x + 1) * 5 ^ k + 0)) last
    ∙ two_products (b / 4) (b % 4) (5 ^ k)

pub key_two : (m b : ℕ) → 2 ≤ m → (b / 4 * 5 + b % 4 + 6) * 5 ^ (m - 2) ≡ block_key m b
unfolding block_key
key_two m b h =
    let l : summary_level m ≡ 2 = omega arith in
    let i : summary_height m ≡ m - 2 = omega arith in
    sym (ap₂ (λ x y. key_below x y b) i l ∙ two_digits (m - 2) b)

-- it stays small
pub key_fits : (b step m : ℕ) → b < 16 → step ≡ 5 ^ (m - 2) → m ≤ 10 → (b / 4 * 5 + b % 4 + 6) * step < 2 ^ 32
key_fits b step m h e deep =
    let f = five_le {k = m - 2} 8 (omega arith) in
    let g = mul-le-mul {n₁ = b / 4 * 5 + b % 4 + 6} {m₁ = step} {n₂ = 24} {m₂ = 390625} (omega arith) (omega arith) in
    omega arith

-- it is a valid key of the summary's height
module _ (m b : ℕ) (h : b < 4 ^ summary_level m) where
  pub key_valid : valid_key m (block_key m b) ≡ true
  key_valid = (block_valid (summary_block m 0 (λ r c. 0) b h)).valid

  pub key_height : height_of m (block_key m b) ≡ summary_height m
  key_height = (block_valid (summary_block m 0 (λ r c. 0) b h)).height

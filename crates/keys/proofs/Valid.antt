-- Valid keys by the digits of specification S3.9 are exactly the keys of the blocks under the root, with the row, column and height that the digits give.
-- Rests on Digits; an induction on the digits one way and on Under the other.
use Prim.Native.Nat.{ℕ, zero, suc, ◌+◌, ◌*◌, ◌^◌, ◌<◌}
use native.Mathlib.Nat.{pow-suc}
use native.Mathlib.Omega.{arith}
use mathlib.Core.Path.{◌≡◌, refl, sym, ap, subst, ◌∙◌}
use mathlib.Core.Bool.{true, cond}
use lib.Dec.{ltb}
use lib.Arith.{digits_lt}
use borrow.Author.Tests.{ltb-true, lt-ltb}
use Rattle.keys.specs.Key.{digits_of, digits_then_zeros, level_of, height_of, valid_key, child_key}
use Rattle.keys.specs.Block.{is_south, is_east, row_of, column_of}
use Rattle.keys.proofs.Cases.{equal, and_left, and_right, and_both}
use Rattle.keys.specs.Under.{Under, MapBlock, here, nw, ne, sw, se}
use Rattle.keys.proofs.Interval.{same_block}
use Rattle.keys.proofs.Powers.{five_pos}
use Rattle.keys.proofs.Digits.{split_digit, valid_digits, row_suc, column_suc, height_digit, valid_digit, valid_zero, zeros, zeros_only, row_zero, column_zero, height_zero, level_height}

-- a block under the quadrant with digit d, the rows and columns counted from the parent's
quadrant_digit : (k d y h a b r c κ : ℕ)
    → d < 5
    → (d ≡ 0 → ⊥)
    → ((r c κ : ℕ) → Under k r c κ h (r + a) (c + b) (κ + y))
    → Under (suc k) r c κ h (r + (cond (is_south d) (2 ^ k) 0 + a)) (c + (cond (is_east d) (2 ^ k) 0 + b)) (κ + (d * 5 ^ k + y))
quadrant_digit k zero y h a b r c κ small other below = absurd (other refl)
quadrant_digit k (suc zero) y h a b r c κ small other below = same_block (nw (below r c (child_key κ k 1))) (omega arith)
quadrant_digit k (suc (suc zero)) y h a b r c κ small other below = same_block (ne (below r (c + 2 ^ k) (child_key κ k 2))) (omega arith)
quadrant_digit k (suc (suc (suc zero))) y h a b r c κ small other below = same_block (sw (below (r + 2 ^ k) c (child_key κ k 3))) (omega arith)
quadrant_digit k (suc (suc (suc (suc zero)))) y h a b r c κ small other below =
    same_block (se (below (r + 2 ^ k) (c + 2 ^ k) (child_key κ k 4))) (omega arith)
quadrant_digit k (suc (suc (suc (suc (suc d))))) y h a b r c κ small other below = absurd (omega arith)

-- Reads k r c κ x: the block that the digits of x name, counted from the block (k r c κ), is there
abbrev Reads : ℕ → ℕ → ℕ → ℕ → ℕ → Type 0
Reads k r c κ x = Under k r c κ (height_of k x) (r + row_of k x) (c + column_of k x) (κ + x)

reads_zero : (k r c κ : ℕ) → Reads k r c κ 0
reads_zero k r c κ =
    let h = height_zero k in
    let a = row_zero k in
    let b = column_zero k in
    same_block here (omega arith)

reads_digit : (k d y r c κ : ℕ) → d < 5 → (d ≡ 0 → ⊥) → y < 5 ^ k → ((r c κ : ℕ) → Reads k r c κ y) → Reads (suc k) r c κ (d * 5 ^ k + y)
reads_digit k d y r c κ small other below rest =
    rw (height_digit k d below other, row_suc k d below, column_suc k d below) (quadrant_digit k d y _ _ _ r c κ small other rest)

reads_sum : (k d y r c κ : ℕ)
    → d < 5
    → y < 5 ^ k
    → valid_digits (suc k) (d * 5 ^ k + y) ≡ true
    → (valid_digits k y ≡ true → (r c κ : ℕ) → Reads k r c κ y)
    → Reads (suc k) r c κ (d * 5 ^ k + y)
reads_sum k d y r c κ small below valid rest =
    equal d 0
    (λ none.
    let f = zeros_only k y below (sym (valid_zero k d below none) ∙ valid) in
    let e : 0 ≡ d * 5 ^ k + y = rw (none, f) (omega arith) in
    subst (λ x. Reads (suc k) r c κ x) e (reads_zero (suc k) r c κ))
    (λ other. reads_digit k d y r c κ small other below (rest (sym (valid_digit k d below other) ∙ valid)))

-- valid digits name a block
pub valid_under : (k x : ℕ) → x < 5 ^ k → valid_digits k x ≡ true → (r c κ : ℕ) → Under k r c κ (height_of k x) (r + row_of k x) (c + column_of k x) (κ + x)
valid_under zero x below valid r c κ = let e : 0 ≡ x = omega arith in subst (λ y. Reads 0 r c κ y) e (reads_zero 0 r c κ)
valid_under (suc k) x below valid r c κ =
    let s = split_digit k x below in
    subst (λ y. Reads (suc k) r c κ y) (sym s.sum)
    (reads_sum k s.digit s.rest r c κ s.is_digit s.is_rest (ap (valid_digits (suc k)) (sym s.sum) ∙ valid) (valid_under k s.rest s.is_rest))

-- a valid key is a block's
pub valid_block : (m κ : ℕ) → valid_key m κ ≡ true → MapBlock m (height_of m κ) (row_of m κ) (column_of m κ) κ
unfolding valid_key
valid_block m κ valid =
    let below = ltb-true κ (5 ^ m) (and_left _ _ valid) in
    same_block (valid_under m κ below (and_right (ltb κ (5 ^ m)) _ valid) 0 0 0) (omega arith)

-- the digits of κ' - κ say where the second block lies in the first
pub record NamedByDigits (k r c κ k' r' c' κ' : ℕ) : Type 0 where
  pub rest : ℕ
  pub below : rest < 5 ^ k
  pub valid : valid_digits k rest ≡ true
  pub height : height_of k rest ≡ k'
  pub row : r + row_of k rest ≡ r'
  pub column : c + column_of k rest ≡ c'
  pub key : κ + rest ≡ κ'

valid_root : (k : ℕ) → valid_digits k 0 ≡ true
unfolding digits_of digits_then_zeros
valid_root zero = refl
valid_root (suc k) =
    let e : 0 ≡ 0 * 5 ^ k + 0 = omega arith in
    ap (valid_digits (suc k)) e ∙ valid_zero k 0 (five_pos k) refl ∙ zeros k

named_digit : {k r c κ r₁ c₁ k' r' c' κ' : ℕ} (d : ℕ)
    → d < 5
    → (d ≡ 0 → ⊥)
    → r + cond (is_south d) (2 ^ k) 0 ≡ r₁
    → c + cond (is_east d) (2 ^ k) 0 ≡ c₁
    → NamedByDigits k r₁ c₁ (child_key κ k d) k' r' c' κ'
    → NamedByDigits (suc k) r c κ k' r' c' κ'
named_digit {k} d small other south east n =
    let p = digits_lt {m = 5} small n.below in
    let e = pow-suc 5 k in
    let a = row_suc k d n.below in
    let b = column_suc k d n.below in
    record {
      rest = d * 5 ^ k + n.rest;
      below = omega arith;
      valid = valid_digit k d n.below other ∙ n.valid;
      height = height_digit k d n.below other ∙ n.height;
      row = omega arith;
      column = omega arith;
      key = omega arith;
    }

-- a block under another is named by valid digits
pub named : {k r c κ k' r' c' κ' : ℕ} → Under k r c κ k' r' c' κ' → NamedByDigits k r c κ k' r' c' κ'
named {k} here =
    record {
      rest = 0;
      below = five_pos k;
      valid = valid_root k;
      height = height_zero k;
      row = omega (arith, row_zero k);
      column = omega (arith, column_zero k);
      key = omega arith;
    }
named (nw u) = named_digit 1 (omega arith) (omega arith) (omega arith) (omega arith) (named u)
named (ne u) = named_digit 2 (omega arith) (omega arith) (omega arith) (omega arith) (named u)
named (sw u) = named_digit 3 (omega arith) (omega arith) (omega arith) (omega arith) (named u)
named (se u) = named_digit 4 (omega arith) (omega arith) (omega arith) (omega arith) (named u)

-- the key is valid, and its digits give this height, row and column
pub record Is (m k r c κ : ℕ) : Type 0 where
  pub valid : valid_key m κ ≡ true
  pub height : height_of m κ ≡ k
  pub row : row_of m κ ≡ r
  pub column : column_of m κ ≡ c

rest_is : {m k r c κ : ℕ} (n : NamedByDigits m 0 0 0 k r c κ) → Is m k r c n.rest
unfolding valid_key
rest_is n =
    record { valid = and_both _ _ (lt-ltb _ _ n.below) n.valid; height = n.height; row = omega arith; column = omega arith }

-- a block's key is valid, and its digits give the block
pub block_valid : {m k r c κ : ℕ} → MapBlock m k r c κ → Is m k r c κ
block_valid {m} {k} {r} {c} {κ} b = let n = named b in let e : n.rest ≡ κ = omega arith in subst (λ x. Is m k r c x) e (rest_is n)

-- a block's level and its height together are m
pub block_level : {m k r c κ : ℕ} → MapBlock m k r c κ → level_of m κ + k ≡ m
block_level {m} {κ} b = let e = level_height m κ in let f = (block_valid b).height in omega arith

-- a valid key is below 5 ^ m
pub valid_below : (m κ : ℕ) → valid_key m κ ≡ true → κ < 5 ^ m
unfolding valid_key
valid_below m κ valid = ltb-true κ (5 ^ m) (and_left _ _ valid)

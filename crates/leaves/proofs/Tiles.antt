-- Keys that tile a block: its own alone, or those that tile its four quadrants, one after the other. They are valid, ascend, and every pixel of the
-- block lies in exactly one of their blocks. Rests on the laws of blocks.
use Prim.Native.Nat.{ℕ, suc, ◌+◌, ◌^◌}
use mathlib.Core.Path.{◌≡◌, refl}
use mathlib.Core.Bool.{Bool, true, false, cond}
use mathlib.Core.List.{List, [], ◌∷◌, ◌++◌}
use native.Mathlib.Nat.{pow-suc}
use native.Mathlib.Omega.{arith}
use lib.Dec.{leb}
use borrow.Author.Tests.{le-leb}
use Rattle.keys.specs.Key.{child_key, valid_key}
use Rattle.keys.specs.Block.{in_block}
use Rattle.keys.proofs.Cases.{decide, and_left, and_right, and_both}
use Rattle.keys.proofs.Powers.{five_pos}
use Rattle.keys.specs.Under.{MapBlock, here, nw, ne, sw, se, InSquare}
use Rattle.keys.proofs.Under.{under_trans}
use Rattle.keys.proofs.Valid.{block_valid}
use Rattle.keys.proofs.InBlock.{in_block_iff}
use Rattle.definitions.specs.Leaves.{valid_keys, ascend_from, coverings}
use Rattle.laws.proofs.Within.{within-cases}
use Rattle.laws.proofs.AscendingKeys.{AscendingKeys, no_key, key, ascending_widen, keys-append}

pub data Tiles : ℕ → ℕ → ℕ → ℕ → List ℕ → Type 0 where
  alone : {k r c κ : ℕ} → Tiles k r c κ (κ ∷ [])
  parts : {k r c κ : ℕ} {a b d e : List ℕ}
      → Tiles k r c (child_key κ k 1) a
      → Tiles k r (c + 2 ^ k) (child_key κ k 2) b
      → Tiles k (r + 2 ^ k) c (child_key κ k 3) d
      → Tiles k (r + 2 ^ k) (c + 2 ^ k) (child_key κ k 4) e
      → Tiles (suc k) r c κ (a ++ (b ++ (d ++ e)))

-- they ascend in the block's interval
pub tiles_ascend : {k r c κ : ℕ} {l : List ℕ} → Tiles k r c κ l → AscendingKeys κ (κ + 5 ^ k) l
tiles_ascend {k} {κ} alone = let h = five_pos k in key {lo = κ} {x = κ} (omega arith) (no_key {lo = suc κ} {hi = κ + 5 ^ k} (omega arith))
tiles_ascend {κ} (parts {k = k} x y z w) =
    let h = five_pos k in
    let g = pow-suc 5 k in
    keys-append (ascending_widen {lo' = κ} {hi' = child_key κ k 2} (omega arith) (omega arith) (tiles_ascend x))
    (keys-append (ascending_widen {lo' = child_key κ k 2} {hi' = child_key κ k 3} (omega arith) (omega arith) (tiles_ascend y))
    (keys-append (ascending_widen {lo' = child_key κ k 3} {hi' = child_key κ k 4} (omega arith) (omega arith) (tiles_ascend z))
    (ascending_widen {lo' = child_key κ k 4} {hi' = κ + 5 ^ suc k} (omega arith) (omega arith) (tiles_ascend w))))

-- the definition's test of it
pub ascend_test : {lo hi : ℕ} {l : List ℕ} → AscendingKeys lo hi l → ascend_from lo l ≡ true
unfolding ascend_from
ascend_test (no_key h) = refl
ascend_test (key {lo = lo} {x = x} {l = l} h t) = and_both (leb lo x) (ascend_from (suc x) l) (le-leb lo x h) (ascend_test t)

pub valid-append : (m : ℕ) (a b : List ℕ) → valid_keys m a ≡ true → valid_keys m b ≡ true → valid_keys m (a ++ b) ≡ true
unfolding valid_keys
valid-append m [] b s t = t
valid-append m (κ ∷ a) b s t =
    and_both (valid_key m κ) (valid_keys m (a ++ b)) (and_left (valid_key m κ) (valid_keys m a) s)
    (valid-append m a b (and_right (valid_key m κ) (valid_keys m a) s) t)

valid_one : (m κ : ℕ) → valid_key m κ ≡ true → valid_keys m (κ ∷ []) ≡ true
unfolding valid_keys
valid_one m κ h = and_both (valid_key m κ) true h refl

-- they are valid
pub tiles_valid : {m k r c κ : ℕ} {l : List ℕ} → MapBlock m k r c κ → Tiles k r c κ l → valid_keys m l ≡ true
tiles_valid {m} {κ} b alone = valid_one m κ (block_valid b).valid
tiles_valid {m} b (parts {a = a} {b = a₂} {d = a₃} {e = a₄} x y z w) =
    valid-append m a _ (tiles_valid (under_trans b (nw here)) x)
    (valid-append m a₂ _ (tiles_valid (under_trans b (ne here)) y)
    (valid-append m a₃ a₄ (tiles_valid (under_trans b (sw here)) z) (tiles_valid (under_trans b (se here)) w)))

pub coverings-append : (m : ℕ) (a b : List ℕ) (row column : ℕ) → coverings m (a ++ b) row column ≡ coverings m a row column + coverings m b row column
unfolding coverings
coverings-append m [] b row column = omega arith
coverings-append m (κ ∷ a) b row column = let h = coverings-append m a b row column in omega arith

coverings_four : (m : ℕ) (a b d e : List ℕ) (row column : ℕ) → coverings m (a ++ (b ++ (d ++ e))) row column
    ≡ coverings m a row column + (coverings m b row column + (coverings m d row column + coverings m e row column))
coverings_four m a b d e row column =
    let f = coverings-append m a (b ++ (d ++ e)) row column in
    let g = coverings-append m b (d ++ e) row column in
    let h = coverings-append m d e row column in
    omega arith

coverings_one : (m κ row column : ℕ) (t : Bool) → in_block m κ row column ≡ t → coverings m (κ ∷ []) row column ≡ cond t 1 0
unfolding coverings
coverings_one m κ row column true e = rw e
coverings_one m κ row column false e = rw e

-- a pixel outside the block lies in none of them
pub tiles_outside : {m k r c κ : ℕ} {l : List ℕ} (row column : ℕ) → MapBlock m k r c κ → Tiles k r c κ l → (InSquare k r c row column → ⊥)
    → coverings m l row column ≡ 0
tiles_outside {m} {κ = κ} row column b alone out =
    decide (in_block m κ row column) (λ t. absurd (out ((in_block_iff row column b).0 t))) (λ t. coverings_one m κ row column false t)
tiles_outside {m} {r = r} {c = c} {κ = κ} row column b (parts {k = k} {a = a₁} {b = a₂} {d = a₃} {e = a₄} x y z w) out =
    let g = pow-suc 2 k in
    let e = coverings_four m a₁ a₂ a₃ a₄ row column in
    let e₁ = tiles_outside row column (under_trans b (nw here)) x (λ i. out (omega arith)) in
    let e₂ = tiles_outside row column (under_trans b (ne here)) y (λ i. out (omega arith)) in
    let e₃ = tiles_outside row column (under_trans b (sw here)) z (λ i. out (omega arith)) in
    let e₄ = tiles_outside row column (under_trans b (se here)) w (λ i. out (omega arith)) in
    omega arith

-- a pixel of the block lies in exactly one
pub tiles_once : {m k r c κ : ℕ} {l : List ℕ} (row column : ℕ) → MapBlock m k r c κ → Tiles k r c κ l → InSquare k r c row column
    → coverings m l row column ≡ 1
tiles_once {m} {κ = κ} row column b alone i = coverings_one m κ row column true ((in_block_iff row column b).1 i)
tiles_once {m} {r = r} {c = c} {κ = κ} row column b (parts {k = k} {a = a₁} {b = a₂} {d = a₃} {e = a₄} x y z w) i =
    let e = coverings_four m a₁ a₂ a₃ a₄ row column in
    within-cases i
    (λ j.
    let e₁ = tiles_once row column (under_trans b (nw here)) x j in
    let e₂ = tiles_outside row column (under_trans b (ne here)) y (λ n. omega arith) in
    let e₃ = tiles_outside row column (under_trans b (sw here)) z (λ n. omega arith) in
    let e₄ = tiles_outside row column (under_trans b (se here)) w (λ n. omega arith) in
    omega arith)
    (λ j.
    let e₁ = tiles_outside row column (under_trans b (nw here)) x (λ n. omega arith) in
    let e₂ = tiles_once row column (under_trans b (ne here)) y j in
    let e₃ = tiles_outside row column (under_trans b (sw here)) z (λ n. omega arith) in
    let e₄ = tiles_outside row column (under_trans b (se here)) w (λ n. omega arith) in
    omega arith)
    (λ j.
    let e₁ = tiles_outside row column (under_trans b (nw here)) x (λ n. omega arith) in
    let e₂ = tiles_outside row column (under_trans b (ne here)) y (λ n. omega arith) in
    let e₃ = tiles_once row column (under_trans b (sw here)) z j in
    let e₄ = tiles_outside row column (under_trans b (se here)) w (λ n. omega arith) in
    omega arith)
    (λ j.
    let e₁ = tiles_outside row column (under_trans b (nw here)) x (λ n. omega arith) in
    let e₂ = tiles_outside row column (under_trans b (ne here)) y (λ n. omega arith) in
    let e₃ = tiles_outside row column (under_trans b (sw here)) z (λ n. omega arith) in
    let e₄ = tiles_once row column (under_trans b (se here)) w j in
    omega arith)

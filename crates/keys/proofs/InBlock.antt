-- The tests in_block and in_interval of a block: one holds for the pixels of its square, the other for the keys of its interval, and of a pixel's
-- key they say the same. Rests on Valid and Pixel.
use Prim.Native.Nat.{ℕ, ◌+◌, ◌^◌, ◌<◌}
use native.Mathlib.Omega.{arith}
use mathlib.Core.Path.{◌≡◌, sym, ◌∙◌}
use mathlib.Core.Bool.{Bool, true, ◌&&◌}
use mathlib.Core.Logic.{◌↔◌}
use lib.Dec.{leb, ltb}
use borrow.Author.Tests.{leb-true, ltb-true, le-leb, lt-ltb}
use Rattle.keys.specs.Key.{valid_key}
use Rattle.keys.specs.Block.{side_of, in_block, in_interval, pixel_key}
use Rattle.keys.proofs.Cases.{and_left, and_right, and_both, same_test}
use Rattle.keys.specs.Under.{MapBlock, InSquare}
use Rattle.keys.proofs.Interval.{within}
use Rattle.keys.proofs.Valid.{Is, valid_block, block_valid}
use Rattle.keys.proofs.Pixel.{InKeys, inside, pixel_back}

abbrev square_test : ℕ → ℕ → ℕ → ℕ → ℕ → Bool
square_test k r c row column = leb r row && ltb row (r + 2 ^ k) && (leb c column && ltb column (c + 2 ^ k))

square_true : (k r c row column : ℕ) → square_test k r c row column ≡ true → InSquare k r c row column
square_true k r c row column e =
    let rows = and_left (leb r row && ltb row (r + 2 ^ k)) _ e in
    let columns = and_right (leb r row && ltb row (r + 2 ^ k)) _ e in
    record {
      top = leb-true _ _ (and_left _ _ rows);
      bottom = ltb-true _ _ (and_right (leb r row) _ rows);
      left = leb-true _ _ (and_left _ _ columns);
      right = ltb-true _ _ (and_right (leb c column) _ columns);
    }

true_square : (k r c row column : ℕ) → InSquare k r c row column → square_test k r c row column ≡ true
true_square k r c row column s =
    and_both _ _ (and_both _ _ (le-leb _ _ s.top) (lt-ltb _ _ s.bottom)) (and_both _ _ (le-leb _ _ s.left) (lt-ltb _ _ s.right))

square-test : {m k r c κ : ℕ} (row column : ℕ) → Is m k r c κ → in_block m κ row column ≡ square_test k r c row column
unfolding in_block side_of
square-test row column i = rw (i.row, i.column, i.height)

-- a pixel is in a block exactly when it lies in the block's square
pub in_block_iff : {m k r c κ : ℕ} (row column : ℕ) → MapBlock m k r c κ → (in_block m κ row column ≡ true) ↔ InSquare k r c row column
in_block_iff {k} {r} {c} row column b =
    let e = square-test row column (block_valid b) in
    ((λ t. square_true k r c row column (sym e ∙ t)), (λ s. e ∙ true_square k r c row column s))

-- a number is in a block's interval exactly when it lies between the block's key and the key after it
pub in_interval-iff : {m k r c κ : ℕ} (x : ℕ) → MapBlock m k r c κ → (in_interval m κ x ≡ true) ↔ InKeys k κ x
unfolding in_interval
in_interval-iff {κ} x b =
    rw (block_valid b).height (
      (λ t. record { from = leb-true _ _ (and_left _ _ t); until = ltb-true _ _ (and_right (leb κ x) _ t) }),
      (λ i. and_both _ _ (le-leb _ _ i.from) (lt-ltb _ _ i.until)),
    )

-- a pixel in a block's square is one of the raster
pub in_raster : {m k r c κ row column : ℕ} → MapBlock m k r c κ → InSquare k r c row column → (row < 2 ^ m) × (column < 2 ^ m)
in_raster b s = let w = within b in omega arith

-- a pixel of the raster is in a block exactly when its key is in the block's interval
pub in_block_keys_iff : {m k r c κ : ℕ} (row column : ℕ)
    → MapBlock m k r c κ
    → row < 2 ^ m
    → column < 2 ^ m
    → (in_block m κ row column ≡ true) ↔ InKeys k κ (pixel_key m row column)
in_block_keys_iff row column b low narrow =
    ((λ t. inside b ((in_block_iff row column b).0 t)), (λ i. (in_block_iff row column b).1 (pixel_back row column b low narrow i)))

-- for a valid key the two tests agree at every pixel of the raster
pub in_block-in_interval : (m κ row column : ℕ)
    → valid_key m κ ≡ true
    → row < 2 ^ m
    → column < 2 ^ m
    → in_block m κ row column ≡ in_interval m κ (pixel_key m row column)
in_block-in_interval m κ row column valid low narrow =
    let b = valid_block m κ valid in
    let pixel = in_block_keys_iff row column b low narrow in
    let key = in_interval-iff (pixel_key m row column) b in
    same_test _ _ (λ t. key.1 (pixel.0 t)) (λ t. pixel.1 (key.0 t))

-- The key of a pixel: it is the block of height 0 at that row and column, and it lies in a block's interval exactly when the pixel lies in the
-- block's square. Rests on Interval (nest).
use Prim.Native.Nat.{ℕ, zero, suc, ◌+◌, ◌-◌, ◌*◌, ◌^◌, ◌≤◌, ◌<◌}
use native.Mathlib.Nat.{pow-suc}
use native.Mathlib.Omega.{arith}
use mathlib.Core.Path.{◌≡◌, refl, ap, ap₂}
use borrow.Author.Tests.{lt-ltb, le-ltb}
use Rattle.keys.specs.Key.{child_key}
use Rattle.keys.specs.Block.{pixel_key}
use Rattle.keys.proofs.Cases.{split}
use Rattle.keys.specs.Under.{Under, MapBlock, here, nw, ne, sw, se, InSquare}
use Rattle.keys.proofs.Under.{under_trans}
use Rattle.keys.proofs.Interval.{same_block, within, nest, one_block}

-- the key of the only pixel of a block of height 0
pub pixel_zero : (row column : ℕ) → pixel_key 0 row column ≡ 0
unfolding pixel_key
pixel_zero row column = refl

-- the key of a pixel in the north-west quadrant
pub pixel_nw : (k row column : ℕ) → row < 2 ^ k → column < 2 ^ k → pixel_key (suc k) row column ≡ 1 * 5 ^ k + pixel_key k row column
unfolding pixel_key
pixel_nw k row column north west = rw (lt-ltb _ _ north, lt-ltb _ _ west)

-- in the north-east quadrant
pub pixel_ne : (k row column : ℕ) → row < 2 ^ k → 2 ^ k ≤ column → pixel_key (suc k) row column ≡ 2 * 5 ^ k + pixel_key k row (column - 2 ^ k)
unfolding pixel_key
pixel_ne k row column north east = rw (lt-ltb _ _ north, le-ltb _ _ east)

-- in the south_west quadrant
pub pixel_sw : (k row column : ℕ) → 2 ^ k ≤ row → column < 2 ^ k → pixel_key (suc k) row column ≡ 3 * 5 ^ k + pixel_key k (row - 2 ^ k) column
unfolding pixel_key
pixel_sw k row column south west = rw (le-ltb _ _ south, lt-ltb _ _ west)

-- in the south-east quadrant
pub pixel_se : (k row column : ℕ)
    → 2 ^ k ≤ row
    → 2 ^ k ≤ column
    → pixel_key (suc k) row column ≡ 4 * 5 ^ k + pixel_key k (row - 2 ^ k) (column - 2 ^ k)
unfolding pixel_key
pixel_se k row column south east = rw (le-ltb _ _ south, le-ltb _ _ east)

-- a pixel lies in one of the four quadrants
quadrants {ℓ} : {C : Type ℓ} (k row column : ℕ)
    → (row < 2 ^ k → column < 2 ^ k → C)
    → (row < 2 ^ k → 2 ^ k ≤ column → C)
    → (2 ^ k ≤ row → column < 2 ^ k → C)
    → (2 ^ k ≤ row → 2 ^ k ≤ column → C)
    → C
quadrants k row column in-nw in-ne in-sw in-se =
    split row (2 ^ k) (λ north. split column (2 ^ k) (in-nw north) (in-ne north)) (λ south. split column (2 ^ k) (in-sw south) (in-se south))

-- a pixel's key is below 5 ^ k, at any row and column
pub pixel_key-lt : (k row column : ℕ) → pixel_key k row column < 5 ^ k
pixel_key-lt zero row column = let e = pixel_zero row column in omega arith
pixel_key-lt (suc k) row column =
    let p = pow-suc 5 k in
    quadrants k row column
    (λ n w. let e = pixel_nw k row column n w in let h = pixel_key-lt k row column in omega arith)
    (λ n e. let f = pixel_ne k row column n e in let h = pixel_key-lt k row (column - 2 ^ k) in omega arith)
    (λ s w. let f = pixel_sw k row column s w in let h = pixel_key-lt k (row - 2 ^ k) column in omega arith)
    (λ s e. let f = pixel_se k row column s e in let h = pixel_key-lt k (row - 2 ^ k) (column - 2 ^ k) in omega arith)

-- the pixel at a row and a column of a block lies under the block
pub pixel_under : (k row column r c κ : ℕ)
    → row < 2 ^ k
    → column < 2 ^ k
    → Under k r c κ 0 (r + row) (c + column) (κ + pixel_key k row column)
pixel_under zero row column r c κ low narrow = let e = pixel_zero row column in same_block here (omega arith)
pixel_under (suc k) row column r c κ low narrow =
    let p = pow-suc 2 k in
    quadrants k row column
    (λ n w.
    let f = pixel_nw k row column n w in
    same_block (nw (pixel_under k row column r c (child_key κ k 1) n w)) (omega arith))
    (λ n e.
    let f = pixel_ne k row column n e in
    same_block (ne (pixel_under k row (column - 2 ^ k) r (c + 2 ^ k) (child_key κ k 2) n (omega arith))) (omega arith))
    (λ s w.
    let f = pixel_sw k row column s w in
    same_block (sw (pixel_under k (row - 2 ^ k) column (r + 2 ^ k) c (child_key κ k 3) (omega arith) w)) (omega arith))
    (λ s e.
    let f = pixel_se k row column s e in
    same_block (se (pixel_under k (row - 2 ^ k) (column - 2 ^ k) (r + 2 ^ k) (c + 2 ^ k) (child_key κ k 4) (omega arith) (omega arith)))
    (omega arith))

-- a pixel of the raster is a block of height 0
pub pixel_block : (m row column : ℕ) → row < 2 ^ m → column < 2 ^ m → MapBlock m 0 row column (pixel_key m row column)
pixel_block m row column low narrow = same_block (pixel_under m row column 0 0 0 low narrow) (omega arith)

-- the key of a block of height 0 is that of its pixel
pub pixel-key : {k r c κ r' c' κ' : ℕ} → Under k r c κ 0 r' c' κ' → κ' ≡ κ + pixel_key k (r' - r) (c' - c)
pixel-key {r} {c} here = let e = pixel_zero (r - r) (c - c) in omega arith
pixel-key {r} {c} {r'} {c'} (nw {k} u) =
    let w = within u in
    let h = pixel-key u in
    let f = pixel_nw k (r' - r) (c' - c) (omega arith) (omega arith) in
    omega arith
pixel-key {r} {c} {r'} {c'} (ne {k} u) =
    let w = within u in
    let h = pixel-key u in
    let f = pixel_ne k (r' - r) (c' - c) (omega arith) (omega arith) in
    let g : pixel_key k (r' - r) (c' - c - 2 ^ k) ≡ pixel_key k (r' - r) (c' - (c + 2 ^ k)) = ap (pixel_key k (r' - r)) (omega arith) in
    omega arith
pixel-key {r} {c} {r'} {c'} (sw {k} u) =
    let w = within u in
    let h = pixel-key u in
    let f = pixel_sw k (r' - r) (c' - c) (omega arith) (omega arith) in
    let g : pixel_key k (r' - r - 2 ^ k) (c' - c) ≡ pixel_key k (r' - (r + 2 ^ k)) (c' - c) = ap (λ x. pixel_key k x (c' - c)) (omega arith) in
    omega arith
pixel-key {r} {c} {r'} {c'} (se {k} u) =
    let w = within u in
    let h = pixel-key u in
    let f = pixel_se k (r' - r) (c' - c) (omega arith) (omega arith) in
    let g : pixel_key k (r' - r - 2 ^ k) (c' - c - 2 ^ k) ≡ pixel_key k (r' - (r + 2 ^ k)) (c' - (c + 2 ^ k)) = ap₂ (pixel_key k) (omega arith) (omega arith) in
    omega arith

-- a pixel's key counted from the root, and counted from a block that it lies in
pub pixel_in_block : {m k r c κ : ℕ} (row column : ℕ)
    → MapBlock m k r c κ
    → row < 2 ^ k
    → column < 2 ^ k
    → pixel_key m (r + row) (c + column) ≡ κ + pixel_key k row column
pixel_in_block {m} {k} {r} {c} {κ} row column b low narrow =
    let u = pixel-key (under_trans b (pixel_under k row column r c κ low narrow)) in
    let e : pixel_key m (r + row - 0) (c + column - 0) ≡ pixel_key m (r + row) (c + column) = ap₂ (pixel_key m) (omega arith) (omega arith) in
    omega arith

-- a key lies in the interval of a block of height k
pub record InKeys (k κ x : ℕ) : Type 0 where
  pub from : κ ≤ x
  pub until : x < κ + 5 ^ k

-- a pixel in a block's square has its key in the block's interval
pub inside : {m k r c κ row column : ℕ} → MapBlock m k r c κ → InSquare k r c row column → InKeys k κ (pixel_key m row column)
inside {m} {k} {r} {c} {κ} {row} {column} b s =
    let e = pixel_in_block (row - r) (column - c) b (omega arith) (omega arith) in
    let f : pixel_key m (r + (row - r)) (c + (column - c)) ≡ pixel_key m row column = ap₂ (pixel_key m) (omega arith) (omega arith) in
    let h = pixel_key-lt k (row - r) (column - c) in
    omega arith

-- and back: a pixel of the raster whose key lies in a block's interval lies in the block's square
pub pixel_back : {m k r c κ : ℕ} (row column : ℕ)
    → MapBlock m k r c κ
    → row < 2 ^ m
    → column < 2 ^ m
    → InKeys k κ (pixel_key m row column)
    → InSquare k r c row column
pixel_back {m} row column b low narrow i =
    let w = within (nest b (pixel_block m row column low narrow) i.from i.until) in
    omega arith

-- two pixels of the raster with one key are one
pub one_key_one_pixel : (m row column row' column' : ℕ)
    → row < 2 ^ m
    → column < 2 ^ m
    → row' < 2 ^ m
    → column' < 2 ^ m
    → pixel_key m row column ≡ pixel_key m row' column'
    → (row ≡ row') × (column ≡ column')
one_key_one_pixel m row column row' column' low narrow low' narrow' e =
    let s = one_block (pixel_block m row column low narrow) (pixel_block m row' column' low' narrow') e in
    (s.rows, s.columns)

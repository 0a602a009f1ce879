-- The first pixel of a block has the least key of its pixels, and no pixel lies between the end of a block and the first pixel of what follows.
-- Inductions on Under.
use Prim.Native.Nat.{ℕ, suc, ◌+◌, ◌*◌, ◌^◌, ◌≤◌, ◌<◌}
use native.Mathlib.Nat.{pow-suc}
use native.Mathlib.Omega.{arith}
use mathlib.Core.Path.{◌≡◌, ap, ◌∙◌}
use mathlib.Core.Bool.{true}
use Rattle.keys.specs.Key.{height_of, valid_key}
use Rattle.keys.specs.Block.{pixel_key}
use Rattle.keys.proofs.Cases.{split}
use Rattle.keys.proofs.LastZeros.{zeros_height}
use Rattle.keys.proofs.Powers.{two_pos}
use Rattle.keys.specs.Under.{Under, MapBlock, here, nw, ne, sw, se, InSquare}
use Rattle.keys.proofs.Interval.{Next, at_end, at_block, key_within, nest, next_block, within}
use Rattle.keys.proofs.Valid.{valid_block, block_valid}
use Rattle.keys.proofs.Pixel.{pixel_zero, pixel_nw, pixel_key-lt, pixel_block, pixel_in_block}
use Rattle.finding.specs.Covering.{first_pixel, end_of}

-- the first pixel of a larger block is that of its first quadrant
first_suc : (k : ℕ) → pixel_key (suc k) 0 0 ≡ 1 * 5 ^ k + pixel_key k 0 0
first_suc k = pixel_nw k 0 0 (two_pos k) (two_pos k)

-- four of its keys and one are a power of five: it has every digit 1
pub first_four : (k : ℕ) → 4 * pixel_key k 0 0 + 1 ≡ 5 ^ k
first_four Prim.Native.Nat.zero = let e = pixel_zero 0 0 in omega arith
first_four (suc k) = let e = first_suc k in let h = first_four k in let f = pow-suc 5 k in omega arith

-- no pixel of a block has a smaller key
pub first_least : {k r c κ r' c' κ' : ℕ} → Under k r c κ 0 r' c' κ' → κ + pixel_key k 0 0 ≤ κ'
first_least here = let e = pixel_zero 0 0 in omega arith
first_least (nw {k} u) = let e = first_suc k in let h = first_least u in omega arith
first_least (ne {k} u) = let e = first_suc k in let h = pixel_key-lt k 0 0 in let w = key_within u in omega arith
first_least (sw {k} u) = let e = first_suc k in let h = pixel_key-lt k 0 0 in let w = key_within u in omega arith
first_least (se {k} u) = let e = first_suc k in let h = pixel_key-lt k 0 0 in let w = key_within u in omega arith

-- the first pixel of a block of the map, by its key
pub first_key : {m k r c κ : ℕ} → MapBlock m k r c κ → first_pixel m κ ≡ κ + pixel_key k 0 0
unfolding first_pixel
first_key {m} {κ = κ} b = ap (λ j. κ + pixel_key j 0 0) (zeros_height m κ (block_valid b).valid ∙ (block_valid b).height)

pub first_from : (m κ : ℕ) → κ ≤ first_pixel m κ
unfolding first_pixel
first_from m κ = omega arith

-- it is the pixel at the block's row and column
pub first_at : {m k r c κ : ℕ} → MapBlock m k r c κ → pixel_key m r c ≡ first_pixel m κ
first_at {m} {k} {r} {c} b =
    let e = pixel_in_block 0 0 b (two_pos k) (two_pos k) in
    let f = first_key b in
    let g : pixel_key m (r + 0) (c + 0) ≡ pixel_key m r c = ap (λ x. pixel_key m x (c + 0)) (omega arith) ∙ ap (pixel_key m r) (omega arith) in
    omega arith

-- and lies among the block's keys
pub first_until : {m k r c κ : ℕ} → MapBlock m k r c κ → first_pixel m κ < κ + 5 ^ k
first_until {k = k} b = let e = first_key b in let h = pixel_key-lt k 0 0 in omega arith

-- a pixel at or past a block's key is at or past its first pixel
pub first_past : {m k r c κ : ℕ} (row column : ℕ) → MapBlock m k r c κ → row < 2 ^ m → column < 2 ^ m → κ ≤ pixel_key m row column → first_pixel m κ ≤ pixel_key m row column
first_past {m} {k} {κ = κ} row column b low narrow past =
    let e = first_key b in
    split (pixel_key m row column) (κ + 5 ^ k)
    (λ inside. let h = first_least (nest b (pixel_block m row column low narrow) past inside) in omega arith)
    (λ beyond. let h = pixel_key-lt k 0 0 in omega arith)

-- the same past the end of a block, whatever comes there
end_past : {m k x : ℕ} (row column : ℕ) → row < 2 ^ m → column < 2 ^ m → Next m 0 0 0 k x → x ≤ pixel_key m row column → first_pixel m x ≤ pixel_key m row column
end_past {m} row column low narrow (at_end e) past = let h = pixel_key-lt m row column in absurd (omega arith)
end_past row column low narrow (at_block b high) past = first_past row column b low narrow past

-- a valid key's block ends where another begins, or with the map
after : (m w : ℕ) → valid_key m w ≡ true → Next m 0 0 0 (height_of m w) (end_of m w)
after m w v = next_block (valid_block m w v)

pub past_end : (m w row column : ℕ) → valid_key m w ≡ true → row < 2 ^ m → column < 2 ^ m → end_of m w ≤ pixel_key m row column
    → first_pixel m (end_of m w) ≤ pixel_key m row column
past_end m w row column v low narrow past = end_past row column low narrow (after m w v) past

-- a pixel of the block with this key
pub record PixelAt (k r c m x : ℕ) : Type 0 where
  pub row : ℕ
  pub column : ℕ
  pub inside : InSquare k r c row column
  pub key : pixel_key m row column ≡ x

-- if the first pixel of what follows a block is among another's keys, it is that one's pixel
end_lands : {m k r c κ j x : ℕ} → MapBlock m k r c κ → Next m 0 0 0 j x → κ ≤ x → first_pixel m x < κ + 5 ^ k → PixelAt k r c m (first_pixel m x)
end_lands {m} {x = x} b (at_end e) from until = let w = within b in let h = first_from m x in absurd (omega arith)
end_lands {m} {x = x} b (at_block {k₁} {r₁} {c₁} d high) from until =
    let h = first_from m x in
    let w = within (nest b d from (omega arith)) in
    let z = two_pos k₁ in
    record { row = r₁; column = c₁; inside = omega arith; key = first_at d }

pub lands : {m k r c κ : ℕ} (w : ℕ) → MapBlock m k r c κ → valid_key m w ≡ true → κ ≤ end_of m w → first_pixel m (end_of m w) < κ + 5 ^ k → PixelAt k r c m (first_pixel m (end_of m w))
lands {m} w b v from until = end_lands b (after m w v) from until

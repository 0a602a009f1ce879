-- A block of a raster: its quadrants lie in the raster too, and the place of a pixel is a place of the raster. Rests on the definitions alone.
use Prim.Native.Nat.{ℕ, zero, suc, ◌+◌, ◌-◌, ◌*◌, ◌^◌, ◌≤◌, ◌<◌}
use mathlib.Core.Path.{◌≡◌, refl, ap, ◌∙◌, sym}
use mathlib.Core.List.{List}
use native.Mathlib.Omega.{arith}
use native.Mathlib.Numerals.{add-one}
use native.Mathlib.Nat.{pow-suc, mul-mul-mul_comm}
use lib.Arith.{digits_lt}
use lib.ListN.{length}
use Rattle.build.specs.BuildBlocks.{Inside}

-- a height that is not 0 is one above the next
pub one_above : {h : ℕ} → 0 < h → suc (h - 1) ≡ h
one_above h = omega arith

-- a side is two halves
pub half_side : (h : ℕ) → 0 < h → 2 ^ h ≡ 2 ^ (h - 1) * 2
half_side h l = ap (λ k. 2 ^ k) (sym (one_above l)) ∙ pow-suc 2 (h - 1)

module _ {raster : List ℕ} {side h r c : ℕ} (b : Inside raster side h r c) where
  -- a block of the next height that begins at most half a side further lies in the raster
  pub inside_quadrant : 0 < h → (r' c' : ℕ) → r' ≤ r + 2 ^ (h - 1) → c' ≤ c + 2 ^ (h - 1) → Inside raster side (h - 1) r' c'
  inside_quadrant l r' c' below right =
      let e = half_side h l in
      record {
        deep = omega (arith, b.deep);
        square = b.square;
        narrow = b.narrow;
        rows = omega (arith, b.rows);
        columns = omega (arith, b.columns);
        features = b.features;
      }

-- the same with half a side as the code has it
pub inside_half : {raster : List ℕ} {side k half r c : ℕ} → Inside raster side (k + 1) r c → half ≡ 2 ^ k → (r' c' : ℕ) → r' ≤ r + half → c' ≤ c + half → Inside raster side k r' c'
inside_half {k = k} b e r' c' below right =
    let h = pow-suc 2 k in
    let h' : 2 ^ (k + 1) ≡ 2 ^ k * 2 = ap (λ x. 2 ^ x) (add-one k) ∙ h in
    record {
      deep = omega (arith, b.deep);
      square = b.square;
      narrow = b.narrow;
      rows = omega (arith, b.rows);
      columns = omega (arith, b.columns);
      features = b.features;
    }

-- the place of a pixel
pub inside_place : {raster : List ℕ} {side r c : ℕ} → Inside raster side 0 r c → r * side + c < length raster
inside_place {side = side} {r = r} {c = c} b =
    let h : r < side = omega (arith, b.rows) in
    let j : c < side = omega (arith, b.columns) in
    let d = digits_lt h j in
    omega (arith, b.square)

-- the pixels of a block
pub inside_pixel : {raster : List ℕ} {side h r c : ℕ} → Inside raster side h r c → (r' c' : ℕ) → r' < r + 2 ^ h → c' < c + 2 ^ h → Inside raster side 0 r' c'
inside_pixel b r' c' below right = record {
  deep = omega arith;
  square = b.square;
  narrow = b.narrow;
  rows = omega (arith, b.rows);
  columns = omega (arith, b.columns);
  features = b.features;
}

-- a square of side 2 ^ k has 4 ^ k pixels
pub square_pixels : (k : ℕ) → 2 ^ k * 2 ^ k ≡ 4 ^ k
square_pixels zero = refl
square_pixels (suc k) =
    ap (λ x. x * x) (pow-suc 2 k) ∙ mul-mul-mul_comm (2 ^ k) 2 (2 ^ k) 2 ∙ ap (λ x. x * 4) (square_pixels k) ∙ sym (pow-suc 4 k)

-- so a raster of that side has
pub inside_raster_pixels : {raster : List ℕ} {side h r c : ℕ} → Inside raster side h r c → side ≡ 2 ^ h → length raster ≡ 4 ^ h
inside_raster_pixels {h = h} b e = b.square ∙ ap (λ x. x * x) e ∙ square_pixels h

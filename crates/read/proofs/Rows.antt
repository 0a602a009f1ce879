-- A raster painted in its whole rectangle holds the picture's features row after row. Rests on Rectangle.
use Prim.Native.Nat.{ℕ, zero, suc, ◌*◌, ◌/◌, ◌%◌, ◌<◌}
use mathlib.Core.Path.{◌≡◌, sym, ◌∙◌, ap, ap₂}
use mathlib.Core.Bool.{true, cond}
use mathlib.Core.List.{List}
use native.Mathlib.Nat.{div-add-mod', mod-lt, div-lt_iff_lt-mul, mul-zero, zero-add}
use native.Mathlib.Omega.{arith}
use lib.ListN.{length, get_or}
use lib.Seq.{ext_get_or}
use Rattle.definitions.specs.Picture.{Picture}
use Rattle.definitions.specs.Window.{features_of_rows}
use Rattle.laws.proofs.RasterOf.{rows-length, rows_at}
use Rattle.read.specs.Fill.{in_rectangle, rectangle_painted}
use Rattle.read.proofs.Painted.{painted_at}
use Rattle.read.proofs.Rectangle.{true_rectangle, rectangle-length}

module _ (p : Picture) (wide height : ℕ) (x : List ℕ) (long : length x ≡ height * wide) (i : ℕ) (h : i < length x) where
  wide_pos : 0 < wide
  wide_pos = positive wide (omega arith)
    where
      positive : (w : ℕ) → i < height * w → 0 < w
      positive zero j = absurd (omega (arith, mul-zero height))
      positive (suc w) j = omega arith

  row_small : i / wide < height
  row_small = (div-lt_iff_lt-mul wide_pos).1 (omega arith)

  whole_at : get_or (rectangle_painted wide p 0 0 height wide x) i 0 ≡ get_or (features_of_rows p 0 0 wide height) i 0
  unfolding rectangle_painted
  whole_at =
      let a = row_small in
      let b = mod-lt i wide_pos in
      let e : in_rectangle 0 0 height wide (i / wide) (i % wide) ≡ true = true_rectangle 0 0 height wide (i / wide) (i % wide) (omega arith) in
      painted_at _ _ x i h
      ∙ ap (λ t. cond t (p (i / wide) (i % wide)) (get_or x i 0)) e
      ∙ sym (ap (λ j. get_or (features_of_rows p 0 0 wide height) j 0) (sym (div-add-mod' i wide))
      ∙ rows_at p 0 0 wide height (i / wide) (i % wide) a b
      ∙ ap₂ p (zero-add (i / wide)) (zero-add (i % wide)))

-- a raster painted in its whole rectangle holds the picture's features row after row
pub whole_painted : (p : Picture) (wide height : ℕ) (x : List ℕ) → length x ≡ height * wide → rectangle_painted wide p 0 0 height wide x ≡ features_of_rows p 0 0 wide height
whole_painted p wide height x long =
    ext_get_or 0 _ _ (rectangle-length wide p 0 0 height wide x ∙ long ∙ sym (rows-length p 0 0 wide height))
    (λ i h. whole_at p wide height x long i (let e = rectangle-length wide p 0 0 height wide x in omega arith))

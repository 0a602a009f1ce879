-- The area of a feature in a window is a sum over the raster's pixels, by quadrants: 1 for each pixel of the window that has the feature. In a block
-- inside the window it is the block's count, in one outside it is 0. Rests on CountOf and WindowScan.
use Prim.Native.Nat.{ℕ, ◌+◌, ◌-◌, ◌^◌, ◌≤◌}
use mathlib.Core.Path.{◌≡◌, sym, ◌∙◌, ap, ap₂}
use mathlib.Core.Bool.{true, cond, ◌&&◌}
use native.Mathlib.Omega.{arith}
use lib.Dec.{leb, eqb}
use borrow.Author.Tests.{leb-true}
use Rattle.keys.proofs.Cases.{decide, and_left, and_right}
use Rattle.keys.specs.Under.{Every}
use Rattle.definitions.specs.Picture.{Picture}
use Rattle.definitions.specs.Window.{is_window, in_window, features_in}
use Rattle.definitions.specs.Area.{area_in, pixels_with}
use Rattle.definitions.specs.declared.Window.{Window}
use Rattle.laws.proofs.WindowScan.{inside_window, window_inside}
use Rattle.laws.proofs.PixelSums.{sum_rows, sum_pixels, sum_block, sum_same, InPart, rows_same, rows_inside}
use Rattle.laws.proofs.CountOf.{one_at, count_rows, pixels_sum}

-- 1 at a pixel of the window that has the feature, 0 at another
abbrev pub one_inside : Picture → Window → ℕ → ℕ → ℕ → ℕ
one_inside p w f r c = cond (in_window w r c && eqb (p r c) f) 1 0

-- the window lies in the raster, by its bounds
pub record Bounds (m : ℕ) (w : Window) : Type 0 where
  pub some_rows : 1 ≤ w.height
  pub some_columns : 1 ≤ w.width
  pub rows : w.row + w.height ≤ 2 ^ m
  pub columns : w.column + w.width ≤ 2 ^ m

pub window_bounds : (m : ℕ) (w : Window) → is_window m w ≡ true → Bounds m w
unfolding is_window
window_bounds m w e =
    let some = and_left (leb 1 w.height && leb 1 w.width) _ e in
    let most = and_right (leb 1 w.height && leb 1 w.width) _ e in
    record {
      some_rows = leb-true 1 w.height (and_left _ _ some);
      some_columns = leb-true 1 w.width (and_right (leb 1 w.height) _ some);
      rows = leb-true (w.row + w.height) (2 ^ m) (and_left _ _ most);
      columns = leb-true (w.column + w.width) (2 ^ m) (and_right (leb (w.row + w.height) (2 ^ m)) _ most);
    }

module _ (p : Picture) (w : Window) (f : ℕ) where
  -- in the window the feature alone counts, and outside it nothing
  pub inside_one : (a b : ℕ) → InPart w.row w.column w.width w.height a b → one_inside p w f a b ≡ one_at p f a b
  inside_one a b i =
      ap (λ x. cond (x && eqb (p a b) f) 1 0)
      (window_inside w a b (record { from_row = i.from_row; to_row = i.to_row; from_column = i.from_column; to_column = i.to_column }))

  pub outside_none : (a b : ℕ) → (InPart w.row w.column w.width w.height a b → ⊥) → one_inside p w f a b ≡ 0
  outside_none a b out =
      decide (in_window w a b)
      (λ e. let i = inside_window w a b e in
      absurd (out (record { from_row = i.from_row; to_row = i.to_row; from_column = i.from_column; to_column = i.to_column })))
      (λ e. ap (λ x. cond (x && eqb (p a b) f) 1 0) e)

  -- the area is a sum over the raster's pixels, by quadrants
  pub area_sum : (m : ℕ) → is_window m w ≡ true → area_in p w f ≡ sum_pixels (one_inside p w f) m 0 0
  unfolding area_in features_in
  area_sum m e =
      let b = window_bounds m w e in
      let right : 2 ^ m ≡ w.column + (w.width + (2 ^ m - (w.column + w.width))) = omega (arith, b.columns) in
      let down : 2 ^ m ≡ w.row + (w.height + (2 ^ m - (w.row + w.height))) = omega (arith, b.rows) in
      count_rows p f w.row w.column w.width w.height
      ∙ sym (rows_same (one_inside p w f) (one_at p f) w.row w.column w.width w.height inside_one)
      ∙ sym (rows_inside (one_inside p w f) w.row w.column w.width w.height (2 ^ m - (w.column + w.width)) (2 ^ m - (w.row + w.height)) outside_none)
      ∙ sym (ap₂ (λ x y. sum_rows (one_inside p w f) 0 0 x y) right down)
      ∙ sum_block (one_inside p w f) m 0 0

  -- the area in a block that lies wholly in the window is the block's count
  pub area_inside : (k r c : ℕ) → Every (λ a b. in_window w a b ≡ true) k r c → sum_pixels (one_inside p w f) k r c ≡ pixels_with p k r c f
  area_inside k r c h =
      sum_same (one_inside p w f) (one_at p f) k r c (λ a b i. ap (λ x. cond (x && eqb (p a b) f) 1 0) (h a b i)) ∙ sym (pixels_sum p f k r c)

-- The areas on the sheets add up to the area in the ground's window. Rests on SheetPixels and GridSums.
use Prim.Native.Nat.{ℕ, ◌+◌, ◌-◌, ◌*◌, ◌^◌, ◌≤◌}
use mathlib.Core.Path.{◌≡◌, sym, ap, ap₂, ◌∙◌}
use mathlib.Core.Bool.{true, not, cond, ◌&&◌}
use native.Mathlib.Nat.{zero-add, add-zero}
use native.Mathlib.Omega.{arith}
use lib.Dec.{eqb}
use Rattle.keys.proofs.Cases.{decide}
use Rattle.definitions.specs.Picture.{Picture}
use Rattle.definitions.specs.Window.{is_window, in_window, features_in}
use Rattle.definitions.specs.Area.{area_in}
use Rattle.definitions.specs.declared.Window.{Window}
use Rattle.laws.proofs.PixelSums.{sum_rows, rows_same, rows_nothing, rows_inside}
use Rattle.laws.proofs.CountOf.{one_at, count_rows}
use Rattle.laws.proofs.AreaOf.{one_inside, inside_one, outside_none, window_bounds}
use Rattle.sheets.specs.Ground.{Ground, inside_ground, sheets_for, first_line, cut_at, seen_from}
use Rattle.sheets.specs.Together.{area_sheets}
use Rattle.sheets.proofs.NoPixels.{area_none}
use Rattle.sheets.proofs.Lines.{covered}
use Rattle.sheets.proofs.Below.{sum_below_same}
use Rattle.sheets.proofs.GridSums.{rows_moved, cells}
use Rattle.sheets.proofs.SheetPixels.{six_none, within_ground, has_same}

module _ (p : Picture) (w : Window) (f : ℕ) where
  -- the area is a sum over the window's pixels
  area_rows : area_in p w f ≡ sum_rows (one_at p f) w.row w.column w.width w.height
  unfolding area_in features_in
  area_rows = count_rows p f w.row w.column w.width w.height

  -- and over the pixels of any rectangle from the north-west corner that has the window in it
  pub area_over : (width height : ℕ) → w.column + w.width ≤ width → w.row + w.height ≤ height → area_in p w f ≡ sum_rows (one_inside p w f) 0 0 width height
  area_over width height narrow low =
      let right : width ≡ w.column + (w.width + (width - (w.column + w.width))) = omega arith in
      let down : height ≡ w.row + (w.height + (height - (w.row + w.height))) = omega arith in
      area_rows
      ∙ sym (rows_same (one_inside p w f) (one_at p f) w.row w.column w.width w.height (inside_one p w f))
      ∙ sym (rows_inside (one_inside p w f) w.row w.column w.width w.height (width - (w.column + w.width)) (height - (w.row + w.height))
      (outside_none p w f))
      ∙ sym (ap₂ (λ x y. sum_rows (one_inside p w f) 0 0 x y) right down)

  -- without a pixel of the window that sum is 0
  none_over : ((r c : ℕ) → in_window w r c ≡ true → ⊥) → (width height : ℕ) → sum_rows (one_inside p w f) 0 0 width height ≡ 0
  none_over none width height =
      rows_nothing (one_inside p w f) 0 0 width height
      (λ a b i. decide (in_window w a b) (λ e. absurd (none a b e)) (λ e. ap (λ x. cond (x && eqb (p a b) f) 1 0) e))

module _ (m : ℕ) (g : Ground) (filler : ℕ) (w : Window) (f : ℕ) where
  -- the area on a sheet is a sum over the sheet's pixels, whether or not it has one of the window
  seen_over : (top left : ℕ)
      → area_in (cut_at g filler top left) (seen_from m w top left) f
      ≡ sum_rows (one_inside (cut_at g filler top left) (seen_from m w top left) f) 0 0 (2 ^ m) (2 ^ m)
  seen_over top left =
      decide (is_window m (seen_from m w top left))
      (λ e. let b = window_bounds m (seen_from m w top left) e in
      area_over (cut_at g filler top left) (seen_from m w top left) f (2 ^ m) (2 ^ m) b.columns b.rows)
      (λ e. let none = six_none m w top left (ap not e) in
      area_none (cut_at g filler top left) (seen_from m w top left) none f
      ∙ sym (none_over (cut_at g filler top left) (seen_from m w top left) f none (2 ^ m) (2 ^ m)))

  module _ (lies : inside_ground g w ≡ true) where
    -- which is the ground's sum over the same pixels
    seen_cell : (top left : ℕ) → area_in (cut_at g filler top left) (seen_from m w top left) f ≡ sum_rows (one_inside g.picture w f) top left (2 ^ m) (2 ^ m)
    seen_cell top left =
        seen_over top left
        ∙ rows_same (one_inside (cut_at g filler top left) (seen_from m w top left) f) (λ a b. one_inside g.picture w f (top + a) (left + b)) 0 0 (2 ^ m) (2 ^ m)
        (λ a b i. ap (λ x. cond x 1 0)
        (has_same g filler top left w lies m a b f (omega (arith, i.to_row, zero-add (2 ^ m))) (omega (arith, i.to_column, zero-add (2 ^ m)))))
        ∙ rows_moved (one_inside g.picture w f) top left 0 0 (2 ^ m) (2 ^ m)
        ∙ ap₂ (λ x y. sum_rows (one_inside g.picture w f) x y (2 ^ m) (2 ^ m)) (add-zero top) (add-zero left)

    -- the areas on the sheets add up to the area in the ground's window
    pub area-sheets : area_sheets m g filler w f ≡ area_in g.picture w f
    unfolding area_sheets
    area-sheets =
        let across : ℕ = sheets_for m g.columns in
        let down : ℕ = sheets_for m g.rows in
        let b = within_ground g w lies in
        sum_below_same _ _ down (λ i _. sum_below_same _ _ across (λ j _. seen_cell (first_line m i) (first_line m j)))
        ∙ cells (one_inside g.picture w f) (2 ^ m) across down
        ∙ sym (area_over g.picture w f (across * 2 ^ m) (down * 2 ^ m)
        (omega (arith, b.columns, covered m g.columns)) (omega (arith, b.rows, covered m g.rows)))

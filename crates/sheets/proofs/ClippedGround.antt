-- A window over the ground's own edge, clipped to the ground: it always lies in the ground, its pixels are exactly those of the ground that were dragged over, a
-- window of the ground is its own, and it is empty exactly where no pixel is common. Then no sheet has a pixel of it, and else some sheet has.
-- Rests on MetSheets, SheetExist and Overlap.
use Prim.Native.Nat.{ℕ, zero, suc, ◌+◌, ◌-◌, ◌<◌, ◌≤◌, min}
use mathlib.Core.Path.{◌≡◌, refl}
use mathlib.Core.Logic.{◌↔◌, ⊎_elim}
use mathlib.Core.Bool.{true, false}
use native.Mathlib.Omega.{arith}
use lib.Dec.{leb, eqb}
use lib.IntN.{ℤ, pos}
use borrow.Author.Tests.{le-leb, eqb-true, eqb-false}
use Rattle.keys.proofs.Cases.{decide, and_both, or_either, neither_left, neither_right}
use Rattle.definitions.specs.Clip.{not_before, overlap_end, overlap_length}
use Rattle.definitions.specs.Window.{in_window}
use Rattle.definitions.specs.declared.Window.{Window}
use Rattle.laws.proofs.WindowScan.{inside_window, window_inside}
use Rattle.laws.proofs.Overlap.{Dragged, Common, common_dragged, dragged_common, none_dragged, not_before_line}
use Rattle.sheets.specs.Ground.{Ground, inside_ground, ground_window, is_empty, sheets_for, meets_sheet}
use Rattle.sheets.proofs.SheetPixels.{within_ground}
use Rattle.sheets.proofs.MetSheets.{met_first, not_met}
use Rattle.sheets.proofs.SheetExist.{found_on}

-- the lines that are left end with the ground
ends_inside : (start : ℤ) (length side : ℕ) → min (not_before start) side + overlap_length start length side ≤ side
unfolding overlap_length overlap_end
ends_inside start length side = omega arith

-- where some are left, the first is the dragged window's own or the ground's first
begins : (start : ℤ) (length side : ℕ) → 1 ≤ overlap_length start length side → min (not_before start) side ≡ not_before start
unfolding overlap_length overlap_end
begins start length side h = omega arith

-- so the lines left are those of the overlap
clipped_common : (start : ℤ) (length side line : ℕ) → min (not_before start) side ≤ line → line < min (not_before start) side + overlap_length start length side
    → Common start length side line
clipped_common start length side line from to =
    let e = begins start length side (omega arith) in record { from = omega arith; to = omega arith }

common_clipped : (start : ℤ) (length side line : ℕ) → Common start length side line
    → (min (not_before start) side ≤ line) × (line < min (not_before start) side + overlap_length start length side)
common_clipped start length side line x =
    let a = x.from in let b = x.to in let e = begins start length side (omega arith) in (omega arith, omega arith)

-- the pixel was dragged over, and is one of the ground
pub record OfGround (g : Ground) (row column : ℤ) (height width r c : ℕ) : Type 0 where
  pub rows : Dragged row height r
  pub columns : Dragged column width c
  pub row_inside : r < g.rows
  pub column_inside : c < g.columns

module _ (g : Ground) (row column : ℤ) (height width : ℕ) where
  -- the clipped window lies in the ground
  pub clipped_inside : inside_ground g (ground_window g row column height width) ≡ true
  unfolding inside_ground ground_window
  clipped_inside =
      and_both (leb (min (not_before row) g.rows + overlap_length row height g.rows) g.rows) _
      (le-leb _ _ (ends_inside row height g.rows)) (le-leb _ _ (ends_inside column width g.columns))

  to_ground : (r c : ℕ) → in_window (ground_window g row column height width) r c ≡ true → OfGround g row column height width r c
  unfolding ground_window
  to_ground r c e =
      let i = inside_window (ground_window g row column height width) r c e in
      let rows = common_dragged row height g.rows r (clipped_common row height g.rows r i.from_row i.to_row) in
      let columns = common_dragged column width g.columns c (clipped_common column width g.columns c i.from_column i.to_column) in
      record { rows = rows.0; columns = columns.0; row_inside = rows.1; column_inside = columns.1 }

  from_ground : (r c : ℕ) → OfGround g row column height width r c → in_window (ground_window g row column height width) r c ≡ true
  unfolding ground_window
  from_ground r c x =
      let rows = common_clipped row height g.rows r (dragged_common row height g.rows r x.rows x.row_inside) in
      let columns = common_clipped column width g.columns c (dragged_common column width g.columns c x.columns x.column_inside) in
      window_inside (ground_window g row column height width) r c
      (record { from_row = rows.0; to_row = rows.1; from_column = columns.0; to_column = columns.1 })

  -- its pixels are exactly those of the ground that were dragged over
  pub clipped_pixels : (r c : ℕ) → (in_window (ground_window g row column height width) r c ≡ true) ↔ OfGround g row column height width r c
  clipped_pixels r c = (to_ground r c, from_ground r c)

-- an empty window has no pixel
pub empty_none : (w : Window) → is_empty w ≡ true → (r c : ℕ) → in_window w r c ≡ true → ⊥
unfolding is_empty
empty_none w e r c i =
    let x = inside_window w r c i in
    ⊎_elim
    (λ (h : eqb w.height 0 ≡ true). let z = eqb-true w.height 0 h in omega (arith, x.from_row, x.to_row))
    (λ (h : eqb w.width 0 ≡ true). let z = eqb-true w.width 0 h in omega (arith, x.from_column, x.to_column))
    (or_either (eqb w.height 0) (eqb w.width 0) e)

-- another has its first
pub not_empty_first : (w : Window) → is_empty w ≡ false → in_window w w.row w.column ≡ true
unfolding is_empty
not_empty_first w e =
    let high = eqb-false w.height 0 (neither_left (eqb w.height 0) (eqb w.width 0) e) in
    let wide = eqb-false w.width 0 (neither_right (eqb w.height 0) (eqb w.width 0) e) in
    window_inside w w.row w.column
    (record { from_row = omega arith; to_row = some w.row w.height high; from_column = omega arith; to_column = some w.column w.width wide })
  where
    some : (first size : ℕ) → (size ≡ 0 → ⊥) → first < first + size
    some first zero h = absurd (h refl)
    some first (suc size) h = omega arith

-- the clipped window is empty exactly where no pixel is common
pub empty_exactly : (g : Ground) (row column : ℤ) (height width : ℕ)
    → (is_empty (ground_window g row column height width) ≡ true) ↔ ((r c : ℕ) → OfGround g row column height width r c → ⊥)
empty_exactly g row column height width =
    let w : Window = ground_window g row column height width in (
      λ e r c x. empty_none w e r c (from_ground g row column height width r c x),
      λ none.
          decide (is_empty w)
          (λ e. e)
          (λ e. absurd (none w.row w.column (to_ground g row column height width w.row w.column (not_empty_first w e)))),
    )

-- so where the height or the width is 0
pub no_ground_height : (g : Ground) (row column : ℤ) (width : ℕ) → is_empty (ground_window g row column 0 width) ≡ true
no_ground_height g row column width = (empty_exactly g row column 0 width).1 (λ r c x. none_dragged row r x.rows)

pub no_ground_width : (g : Ground) (row column : ℤ) (height : ℕ) → is_empty (ground_window g row column height 0) ≡ true
no_ground_width g row column height = (empty_exactly g row column height 0).1 (λ r c x. none_dragged column c x.columns)

-- a window of the ground is its own clipped window
pub own_ground : (g : Ground) (w : Window) → inside_ground g w ≡ true → ground_window g (pos w.row) (pos w.column) w.height w.width ≡ w
unfolding ground_window overlap_length overlap_end
own_ground g w lies =
    let inside = within_ground g w lies in
    let a = inside.rows in
    let b = inside.columns in
    let row_is : min (not_before (pos w.row)) g.rows ≡ w.row = (let z = not_before_line w.row in omega arith) in
    let column_is : min (not_before (pos w.column)) g.columns ≡ w.column = (let z = not_before_line w.column in omega arith) in
    let height_is : min (not_before (pos (w.row + w.height))) g.rows - not_before (pos w.row) ≡ w.height =
    (let z = not_before_line w.row in let y = not_before_line (w.row + w.height) in omega arith) in
    let width_is : min (not_before (pos (w.column + w.width))) g.columns - not_before (pos w.column) ≡ w.width =
    (let z = not_before_line w.column in let y = not_before_line (w.column + w.width) in omega arith) in
    λ i. record { row = row_is i; column = column_is i; height = height_is i; width = width_is i }

-- a sheet that has a pixel of the window
pub record SomeMet (m : ℕ) (g : Ground) (w : Window) : Type 0 where
  pub down : ℕ
  pub across : ℕ
  pub down_below : down < sheets_for m g.rows
  pub across_below : across < sheets_for m g.columns
  pub met : meets_sheet m w down across ≡ true

-- no sheet meets an empty window
pub empty_not_met : (m : ℕ) (w : Window) → is_empty w ≡ true → (i j : ℕ) → meets_sheet m w i j ≡ false
empty_not_met m w e i j =
    decide (meets_sheet m w i j)
    (λ met. absurd (empty_none w e _ _ (met_first m w i j met).inside))
    (λ none. none)

-- and some sheet meets any other
pub some_met : (m : ℕ) (g : Ground) (w : Window) → inside_ground g w ≡ true → is_empty w ≡ false → SomeMet m g w
some_met m g w lies e =
    let x = found_on m g w lies w.row w.column (not_empty_first w e) in
    decide (meets_sheet m w x.down.sheet x.across.sheet)
    (λ met. record { down = x.down.sheet; across = x.across.sheet; down_below = x.down.sheet_below; across_below = x.across.sheet_below; met = met })
    (λ none. absurd (not_met m w x.down.sheet x.across.sheet none x.down.place x.across.place x.inside))

-- Which sheets have a pixel of the window, by their first lines: on those the clipped window is a window of the sheet, on the others it is none, which gives 6.
-- Rests on SheetPixels.
use Prim.Native.Nat.{ℕ, ◌+◌, ◌-◌, ◌^◌, ◌<◌, ◌≤◌, max}
use mathlib.Core.Path.{◌≡◌, ap, ◌∙◌}
use mathlib.Core.Bool.{Bool, true, false, not, ◌&&◌}
use native.Mathlib.Omega.{arith}
use lib.Dec.{leb, ltb}
use lib.Pow.{pow_pos}
use borrow.Author.Tests.{leb-true, le-leb, ltb-true, lt-ltb}
use Rattle.keys.proofs.Cases.{decide, and_left, and_right, and_both, same_test}
use Rattle.keys.specs.Under.{Every}
use Rattle.definitions.specs.Window.{is_window, in_window}
use Rattle.definitions.specs.declared.Window.{Window}
use Rattle.laws.proofs.WindowScan.{inside_window, window_inside}
use Rattle.laws.proofs.AreaOf.{window_bounds}
use Rattle.sheets.specs.Ground.{Ground, first_line, seen_from, sheet_picture, sheet_window, meets, meets_sheet}
use Rattle.sheets.specs.Calls.{GroundFits}
use Rattle.sheets.proofs.SheetPixels.{SeenPixel, seen_to, seen-from, six_none, cut_below}

-- a common line, counted from the first
record Meeting (start length first side : ℕ) : Type 0 where
  line : ℕ
  from : start ≤ first + line
  to : first + line < start + length
  on : line < side

meeting_to : (start length first side : ℕ) → Meeting start length first side → meets start length first side ≡ true
unfolding meets
meeting_to start length first side x =
    let a = x.from in
    let b = x.to in
    let c = x.on in
    and_both (leb 1 length) (ltb start (first + side) && ltb first (start + length))
    (le-leb 1 length (omega arith))
    (and_both (ltb start (first + side)) (ltb first (start + length)) (lt-ltb start (first + side) (omega arith)) (lt-ltb first (start + length) (omega arith)))

meeting_from : (start length first side : ℕ) → 1 ≤ side → meets start length first side ≡ true → Meeting start length first side
unfolding meets
meeting_from start length first side h e =
    let rest : Bool = ltb start (first + side) && ltb first (start + length) in
    let a = leb-true 1 length (and_left (leb 1 length) rest e) in
    let both = and_right (leb 1 length) rest e in
    let b = ltb-true start (first + side) (and_left (ltb start (first + side)) (ltb first (start + length)) both) in
    let c = ltb-true first (start + length) (and_right (ltb start (first + side)) (ltb first (start + length)) both) in
    record { line = max start first - first; from = omega arith; to = omega arith; on = omega arith }

module _ (m : ℕ) (w : Window) (top left : ℕ) where
  -- the first pixel of the clipped window is common
  first_seen : is_window m (seen_from m w top left) ≡ true → SeenPixel m w top left (seen_from m w top left).row (seen_from m w top left).column
  first_seen e =
      let u : Window = seen_from m w top left in
      let b = window_bounds m u e in
      seen_to m w top left u.row u.column
      (window_inside u u.row u.column
      (record {
        from_row = omega arith;
        to_row = omega (arith, b.some_rows);
        from_column = omega arith;
        to_column = omega (arith, b.some_columns);
      }))

  met_to : is_window m (seen_from m w top left) ≡ true → meets w.row w.height top (2 ^ m) && meets w.column w.width left (2 ^ m) ≡ true
  met_to e =
      let x = first_seen e in
      let i = inside_window w _ _ x.inside in
      and_both (meets w.row w.height top (2 ^ m)) (meets w.column w.width left (2 ^ m))
      (meeting_to w.row w.height top (2 ^ m) (record { line = _; from = i.from_row; to = i.to_row; on = x.row_on }))
      (meeting_to w.column w.width left (2 ^ m) (record { line = _; from = i.from_column; to = i.to_column; on = x.column_on }))

  met_from : meets w.row w.height top (2 ^ m) && meets w.column w.width left (2 ^ m) ≡ true → is_window m (seen_from m w top left) ≡ true
  met_from e =
      let rows = meeting_from w.row w.height top (2 ^ m) (pow_pos m) (and_left (meets w.row w.height top (2 ^ m)) _ e) in
      let columns = meeting_from w.column w.width left (2 ^ m) (pow_pos m) (and_right (meets w.row w.height top (2 ^ m)) _ e) in
      let x = seen-from m w top left rows.line columns.line (record {
        inside = window_inside w (top + rows.line) (left + columns.line)
            (record { from_row = rows.from; to_row = rows.to; from_column = columns.from; to_column = columns.to });
        row_on = rows.on;
        column_on = columns.on;
      }) in
      decide (is_window m (seen_from m w top left)) (λ is. is) (λ none. absurd (six_none m w top left (ap not none) rows.line columns.line x))

-- the clipped window is a window of the sheet exactly where the sheet has a pixel of the window
pub window_met : (m : ℕ) (w : Window) (i j : ℕ) → is_window m (sheet_window m w i j) ≡ meets_sheet m w i j
unfolding meets_sheet
window_met m w i j = same_test _ _ (met_to m w (first_line m i) (first_line m j)) (met_from m w (first_line m i) (first_line m j))

-- on such a sheet the first pixel of the clipped window is a pixel of the window
pub met_first : (m : ℕ) (w : Window) (i j : ℕ) → meets_sheet m w i j ≡ true
    → SeenPixel m w (first_line m i) (first_line m j) (sheet_window m w i j).row (sheet_window m w i j).column
met_first m w i j e = first_seen m w (first_line m i) (first_line m j) (window_met m w i j ∙ e)

-- another sheet has none of its pixels
pub not_met : (m : ℕ) (w : Window) (i j : ℕ) → meets_sheet m w i j ≡ false → (r c : ℕ) → in_window (sheet_window m w i j) r c ≡ true → ⊥
not_met m w i j e = six_none m w (first_line m i) (first_line m j) (ap not (window_met m w i j ∙ e))

-- the features of a sheet are below s
pub sheet_below : {m s : ℕ} {g : Ground} {filler : ℕ} → GroundFits m s g filler → (i j : ℕ) → Every (λ r c. sheet_picture m g filler i j r c < s) m 0 0
sheet_below {m} {s} {g} {filler} fits i j r c _ = cut_below g filler (first_line m i) (first_line m j) s fits.features fits.filler_below r c

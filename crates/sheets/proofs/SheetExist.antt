-- Exist and report on the sheets, put together, are the ground's. Rests on SheetPixels and Below.
use Prim.Native.Nat.{ℕ, ◌+◌}
use mathlib.Core.Path.{◌≡◌, sym, ap₂, ◌∙◌}
use mathlib.Core.Bool.{true}
use native.Mathlib.Omega.{arith}
use Rattle.keys.proofs.Cases.{same_test}
use Rattle.definitions.specs.Bits.{has_slot}
use Rattle.definitions.specs.Window.{in_window, exist_in, report_in}
use Rattle.definitions.specs.declared.Window.{Window}
use Rattle.laws.proofs.Slots.{bits_equal}
use Rattle.laws.proofs.WindowScan.{inside_window, PixelWith, exist_exactly, exist_report}
use Rattle.sheets.specs.Ground.{Ground, inside_ground, sheets_for, first_line, cut_at, seen_from, sheet_picture, sheet_window}
use Rattle.sheets.specs.Together.{exist_sheets, report_sheets}
use Rattle.sheets.proofs.Lines.{OnItsSheet, on_its_sheet}
use Rattle.sheets.proofs.Below.{some_to, some_from, some_below_same, slot_below}
use Rattle.sheets.proofs.SheetPixels.{seen_to, seen-from, within_ground, no_filler}

-- a pixel of the ground, on the sheet where it lies and in the window as that sheet has it
pub record FoundOn (m : ℕ) (g : Ground) (w : Window) (row column : ℕ) : Type 0 where
  pub down : OnItsSheet m g.rows row
  pub across : OnItsSheet m g.columns column
  pub inside : in_window (sheet_window m w down.sheet across.sheet) down.place across.place ≡ true

-- each pixel of a window inside the ground is found
pub found_on : (m : ℕ) (g : Ground) (w : Window) → inside_ground g w ≡ true → (row column : ℕ) → in_window w row column ≡ true → FoundOn m g w row column
found_on m g w lies row column e =
    let i = inside_window w row column e in
    let b = within_ground g w lies in
    let down = on_its_sheet m g.rows row (omega (arith, i.to_row, b.rows)) in
    let across = on_its_sheet m g.columns column (omega (arith, i.to_column, b.columns)) in
    record {
      down = down;
      across = across;
      inside = seen-from m w (first_line m down.sheet) (first_line m across.sheet) down.place across.place
          (record { inside = ap₂ (in_window w) down.is across.is ∙ e; row_on = down.place-below; column_on = across.place-below });
    }

module _ (m : ℕ) (g : Ground) (filler : ℕ) (w : Window) (lies : inside_ground g w ≡ true) (f : ℕ) where
  -- a pixel on a sheet is one of the ground
  pub from_sheet : (top left : ℕ) → PixelWith (cut_at g filler top left) (seen_from m w top left) f → PixelWith g.picture w f
  from_sheet top left x = record {
    row = top + x.row;
    column = left + x.column;
    inside = (seen_to m w top left x.row x.column x.inside).inside;
    feature = sym (no_filler g filler top left w lies m x.row x.column x.inside) ∙ x.feature;
  }

  to_sheet : (x : PixelWith g.picture w f) (y : FoundOn m g w x.row x.column)
      → PixelWith (sheet_picture m g filler y.down.sheet y.across.sheet) (sheet_window m w y.down.sheet y.across.sheet) f
  to_sheet x y = record {
    row = y.down.place;
    column = y.across.place;
    inside = y.inside;
    feature = no_filler g filler (first_line m y.down.sheet) (first_line m y.across.sheet) w lies m y.down.place y.across.place y.inside
        ∙ ap₂ g.picture y.down.is y.across.is
        ∙ x.feature;
  }

  -- some sheet says yes exactly when a scan of the ground's window does
  pub exist-sheets : exist_sheets m g filler w f ≡ exist_in g.picture w f
  unfolding exist_sheets
  exist-sheets =
      same_test _ _
      (λ e.
      let i = some_to _ (sheets_for m g.rows) e in
      let j = some_to _ (sheets_for m g.columns) i.holds in
      (exist_exactly g.picture w f).1 (from_sheet (first_line m i.at) (first_line m j.at) ((exist_exactly _ _ f).0 j.holds)))
      (λ e.
      let x = (exist_exactly g.picture w f).0 e in
      let y = found_on m g w lies x.row x.column x.inside in
      some_from _ (sheets_for m g.rows) y.down.sheet y.down.sheet_below
      (some_from _ (sheets_for m g.columns) y.across.sheet y.across.sheet_below ((exist_exactly _ _ f).1 (to_sheet x y))))

module _ (m : ℕ) (g : Ground) (filler : ℕ) (w : Window) (lies : inside_ground g w ≡ true) where
  slot_sheets : (f : ℕ) → has_slot (report_sheets m g filler w) f ≡ exist_sheets m g filler w f
  unfolding report_sheets exist_sheets
  slot_sheets f =
      slot_below _ (sheets_for m g.rows) f
      ∙ some_below_same _ _ (sheets_for m g.rows) (λ i _.
      slot_below _ (sheets_for m g.columns) f
      ∙ some_below_same _ _ (sheets_for m g.columns) (λ j _. sym (exist_report (sheet_picture m g filler i j) (sheet_window m w i j) f)))

  -- the union of the sheets' reports is the report of the ground's window
  pub report-sheets : report_sheets m g filler w ≡ report_in g.picture w
  report-sheets = bits_equal _ _ (λ f. slot_sheets f ∙ exist-sheets m g filler w lies f ∙ exist_report g.picture w f)

-- What the clipped calls answer on the sheets of the ground, put together, is what a scan of the ground's window answers; and which refusal each sheet gives.
-- Rests on SheetCalls and on the laws of the sheets' pictures.
use Prim.Native.Nat.{ℕ, ◌<◌}
use mathlib.Core.Path.{◌≡◌, ap, ◌∙◌}
use mathlib.Core.Bool.{true, false, cond}
use mathlib.Core.List.{List}
use lib.ListN.{length}
use lib.Dec.{ltb}
use borrow.Author.Tests.{lt-leb}
use Rattle.definitions.specs.Picture.{Picture}
use Rattle.definitions.specs.Window.{in_window, bad_window, exist_in, report_in, select_in}
use Rattle.definitions.specs.Area.{area_in}
use Rattle.definitions.specs.Refusal.{bad_feature}
use Rattle.definitions.specs.declared.Window.{Window}
use Rattle.history.specs.History.{Buffers}
use Rattle.sheets.specs.Ground.{Ground, inside_ground, sheets_for, first_line, sheet_picture, sheet_window, meets_sheet}
use Rattle.sheets.specs.Together.{blocks_on, exist_sheets, report_sheets, area_sheets, select_sheets}
use Rattle.sheets.specs.Calls.{GroundFits, AllHold, AllHaveRoom, exist_on, report_on, area_on, select_on, exist_together, report_together, area_together, select_together}
use Rattle.sheets.proofs.Below.{some_below_same, union_below_same, sum_below_same, list_below_same}
use Rattle.sheets.proofs.SheetPixels.{six_none}
use Rattle.sheets.proofs.MetSheets.{window_met, sheet_below}
use Rattle.sheets.proofs.SheetArea.{area-sheets}
use Rattle.sheets.proofs.SheetExist.{exist-sheets, report-sheets}
use Rattle.sheets.proofs.SheetCalls.{exist_refused, report_refused, area_refused, select_refused, exist_answer, report_answer, area_answer, select-answer}

module _ (m s : ℕ) (g : Ground) (filler : ℕ) (fits : GroundFits m s g filler) (sheets : ℕ → ℕ → Buffers) (hold : AllHold m s g filler sheets) (w : Window) where
  sheet_none : (i j : ℕ) → bad_window m (sheet_window m w i j) ≡ true → (r c : ℕ) → in_window (sheet_window m w i j) r c ≡ true → ⊥
  sheet_none i j = six_none m w (first_line m i) (first_line m j)

  module _ (i j : ℕ) (down : i < sheets_for m g.rows) (across : j < sheets_for m g.columns) where
    abbrev p : Picture
    p = sheet_picture m g filler i j

    -- a sheet is refused only where it has no pixel of the window, with 6
    pub exist_refusal : (f : ℕ) → f < s → (exist_on m s (sheets i j) w i j f).refusal ≡ cond (meets_sheet m w i j) 0 6
    exist_refusal f h =
        exist_refused m s p (sheets i j) fits.settings (sheet_below fits i j) (hold i j down across) (sheet_window m w i j) f (lt-leb s f h)
        ∙ ap (λ x. cond x 0 6) (window_met m w i j)

    pub report_refusal : (report_on m s (sheets i j) w i j).refusal ≡ cond (meets_sheet m w i j) 0 6
    report_refusal =
        report_refused m s p (sheets i j) fits.settings (sheet_below fits i j) (hold i j down across) (sheet_window m w i j)
        ∙ ap (λ x. cond x 0 6) (window_met m w i j)

    pub area_refusal : (f : ℕ) → f < s → (area_on m s (sheets i j) w i j f).refusal ≡ cond (meets_sheet m w i j) 0 6
    area_refusal f h =
        area_refused m s p (sheets i j) fits.settings (sheet_below fits i j) (hold i j down across) (sheet_window m w i j) f (lt-leb s f h)
        ∙ ap (λ x. cond x 0 6) (window_met m w i j)

    -- select also where its answer has too few places, with 12
    pub select_refusal : (f : ℕ) → f < s → (answer : List ℕ) → (select_on m s (sheets i j) w i j f answer).refusal
        ≡ cond (meets_sheet m w i j) (cond (ltb (length answer) (length (select_in m (sheet_picture m g filler i j) (sheet_window m w i j) f))) 12 0) 6
    select_refusal f h answer =
        select_refused m s p (sheets i j) fits.settings (sheet_below fits i j) (hold i j down across) (sheet_window m w i j) f answer (lt-leb s f h)
        ∙ ap (λ x. cond x (cond (ltb (length answer) (length (select_in m p (sheet_window m w i j) f))) 12 0) 6) (window_met m w i j)

  -- the answers together are those of the sheets' pictures
  exist_pictures : (f : ℕ) → bad_feature s f ≡ false → exist_together m s g sheets w f ≡ exist_sheets m g filler w f
  unfolding exist_together exist_sheets
  exist_pictures f h =
      some_below_same _ _ (sheets_for m g.rows) (λ i a. some_below_same _ _ (sheets_for m g.columns) (λ j b.
      exist_answer m s (sheet_picture m g filler i j) (sheets i j) fits.settings (sheet_below fits i j) (hold i j a b) (sheet_window m w i j) f h (sheet_none i j)))

  report_pictures : report_together m s g sheets w ≡ report_sheets m g filler w
  unfolding report_together report_sheets
  report_pictures =
      union_below_same _ _ (sheets_for m g.rows) (λ i a. union_below_same _ _ (sheets_for m g.columns) (λ j b.
      report_answer m s (sheet_picture m g filler i j) (sheets i j) fits.settings (sheet_below fits i j) (hold i j a b) (sheet_window m w i j) (sheet_none i j)))

  area_pictures : (f : ℕ) → bad_feature s f ≡ false → area_together m s g sheets w f ≡ area_sheets m g filler w f
  unfolding area_together area_sheets
  area_pictures f h =
      sum_below_same _ _ (sheets_for m g.rows) (λ i a. sum_below_same _ _ (sheets_for m g.columns) (λ j b.
      area_answer m s (sheet_picture m g filler i j) (sheets i j) fits.settings (sheet_below fits i j) (hold i j a b) (sheet_window m w i j) f h (sheet_none i j)))

  -- select: the blocks that the accepted calls have written, sheet after sheet, are those of the sheets' pictures
  pub select-together : (f : ℕ) → f < s → (answers : ℕ → ℕ → List ℕ) → AllHaveRoom m s g sheets w f answers
      → select_together m s g sheets w f answers ≡ select_sheets m g filler w f
  unfolding select_together select_sheets
  select-together f h answers room =
      list_below_same _ _ (sheets_for m g.rows) (λ i a. list_below_same _ _ (sheets_for m g.columns) (λ j b.
      ap (blocks_on i j)
      (select-answer m s (sheet_picture m g filler i j) (sheets i j) fits.settings (sheet_below fits i j) (hold i j a b) (sheet_window m w i j) f (answers i j)
      (lt-leb s f h) (sheet_none i j) (room i j a b))))

  module _ (lies : inside_ground g w ≡ true) where
    -- exist: some sheet's accepted answer is yes exactly when a scan of the ground's window finds the feature
    pub exist-together : (f : ℕ) → f < s → exist_together m s g sheets w f ≡ exist_in g.picture w f
    exist-together f h = exist_pictures f (lt-leb s f h) ∙ exist-sheets m g filler w lies f

    -- report: the union of the accepted reports is the report of the ground's window
    pub report-together : report_together m s g sheets w ≡ report_in g.picture w
    report-together = report_pictures ∙ report-sheets m g filler w lies

    -- area: the accepted areas add up to the area in the ground's window
    pub area-together : (f : ℕ) → f < s → area_together m s g sheets w f ≡ area_in g.picture w f
    area-together f h = area_pictures f (lt-leb s f h) ∙ area-sheets m g filler w f lies

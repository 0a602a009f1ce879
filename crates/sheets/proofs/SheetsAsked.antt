-- It is enough to ask the sheets that have a pixel of the window; the others need not be there. Rests on MetSheets, SheetCalls and the laws of the sheets' pictures.
use Prim.Native.Nat.{ℕ, ◌<◌}
use mathlib.Core.Path.{◌≡◌, sym, ap, ◌∙◌}
use mathlib.Core.Bool.{true, false, cond, ◌&&◌}
use mathlib.Core.List.{List, []}
use lib.ListN.{length}
use lib.Dec.{ltb, eqb}
use borrow.Author.Tests.{lt-leb}
use Rattle.keys.proofs.Cases.{decide}
use Rattle.definitions.specs.Picture.{Picture}
use Rattle.definitions.specs.Window.{exist_in, report_in, select_in}
use Rattle.definitions.specs.Area.{area_in}
use Rattle.definitions.specs.Refusal.{bad_feature}
use Rattle.definitions.specs.declared.Window.{Window}
use Rattle.history.specs.History.{Buffers}
use Rattle.sheets.specs.Ground.{Ground, inside_ground, sheets_for, sheet_picture, sheet_window, meets_sheet}
use Rattle.sheets.specs.Together.{SheetBlock, blocks_on, exist_sheets, report_sheets, area_sheets, select_sheets}
use Rattle.sheets.specs.Calls.{GroundFits, MetHold, MetHaveRoom, exist_on, report_on, area_on, select_on, written_on, exist_asked, report_asked, area_asked, select_asked, places_asked}
use Rattle.sheets.proofs.Below.{some_below_same, union_below_same, sum_below_same, list_below_same}
use Rattle.sheets.proofs.NoPixels.{exist_none, report_none, area_none, select_none}
use Rattle.sheets.proofs.MetSheets.{window_met, not_met, sheet_below}
use Rattle.sheets.proofs.SheetArea.{area-sheets}
use Rattle.sheets.proofs.SheetExist.{exist-sheets, report-sheets}
use Rattle.sheets.proofs.SheetSelect.{select_count}
use Rattle.sheets.proofs.SheetCalls.{exist_refused, report_refused, area_refused, select_refused, exist_plain, report_plain, area_plain, select_places, select_plain}

module _ (m s : ℕ) (g : Ground) (filler : ℕ) (fits : GroundFits m s g filler) (sheets : ℕ → ℕ → Buffers) (w : Window) (hold : MetHold m s g filler sheets w) where
  module _ (i j : ℕ) (down : i < sheets_for m g.rows) (across : j < sheets_for m g.columns) where
    abbrev p : Picture
    p = sheet_picture m g filler i j

    abbrev u : Window
    u = sheet_window m w i j

    -- on such a sheet the calls are accepted, but for select with too few places in its answer, which gives 12
    module _ (e : meets_sheet m w i j ≡ true) where
      pub exist_accepted : (f : ℕ) → f < s → (exist_on m s (sheets i j) w i j f).refusal ≡ 0
      exist_accepted f h =
          exist_refused m s p (sheets i j) fits.settings (sheet_below fits i j) (hold i j down across e) u f (lt-leb s f h)
          ∙ ap (λ x. cond x 0 6) (window_met m w i j ∙ e)

      pub report_accepted : (report_on m s (sheets i j) w i j).refusal ≡ 0
      report_accepted =
          report_refused m s p (sheets i j) fits.settings (sheet_below fits i j) (hold i j down across e) u ∙ ap (λ x. cond x 0 6) (window_met m w i j ∙ e)

      pub area_accepted : (f : ℕ) → f < s → (area_on m s (sheets i j) w i j f).refusal ≡ 0
      area_accepted f h =
          area_refused m s p (sheets i j) fits.settings (sheet_below fits i j) (hold i j down across e) u f (lt-leb s f h)
          ∙ ap (λ x. cond x 0 6) (window_met m w i j ∙ e)

      pub select_accepted : (f : ℕ) → f < s → (answer : List ℕ) → (select_on m s (sheets i j) w i j f answer).refusal
          ≡ cond (ltb (length answer) (length (select_in m (sheet_picture m g filler i j) (sheet_window m w i j) f))) 12 0
      select_accepted f h answer =
          select_refused m s p (sheets i j) fits.settings (sheet_below fits i j) (hold i j down across e) u f answer (lt-leb s f h)
          ∙ ap (λ x. cond x (cond (ltb (length answer) (length (select_in m p u f))) 12 0) 6) (window_met m w i j ∙ e)

    exist_cell : (f : ℕ) → bad_feature s f ≡ false → meets_sheet m w i j && eqb (exist_on m s (sheets i j) w i j f).yes 1 ≡ exist_in p u f
    exist_cell f h =
        decide (meets_sheet m w i j)
        (λ e. ap (λ x. x && eqb (exist_on m s (sheets i j) w i j f).yes 1) e
        ∙ exist_plain m s p (sheets i j) fits.settings (sheet_below fits i j) (hold i j down across e) u f h (window_met m w i j ∙ e))
        (λ e. ap (λ x. x && eqb (exist_on m s (sheets i j) w i j f).yes 1) e ∙ sym (exist_none p u (not_met m w i j e) f))

    report_cell : cond (meets_sheet m w i j) (report_on m s (sheets i j) w i j).bits 0 ≡ report_in p u
    report_cell =
        decide (meets_sheet m w i j)
        (λ e. ap (λ x. cond x (report_on m s (sheets i j) w i j).bits 0) e
        ∙ report_plain m s p (sheets i j) fits.settings (sheet_below fits i j) (hold i j down across e) u (window_met m w i j ∙ e))
        (λ e. ap (λ x. cond x (report_on m s (sheets i j) w i j).bits 0) e ∙ sym (report_none p u (not_met m w i j e)))

    area_cell : (f : ℕ) → bad_feature s f ≡ false → cond (meets_sheet m w i j) (area_on m s (sheets i j) w i j f).pixels 0 ≡ area_in p u f
    area_cell f h =
        decide (meets_sheet m w i j)
        (λ e. ap (λ x. cond x (area_on m s (sheets i j) w i j f).pixels 0) e
        ∙ area_plain m s p (sheets i j) fits.settings (sheet_below fits i j) (hold i j down across e) u f h (window_met m w i j ∙ e))
        (λ e. ap (λ x. cond x (area_on m s (sheets i j) w i j f).pixels 0) e ∙ sym (area_none p u (not_met m w i j e) f))

    module _ (f : ℕ) (h : bad_feature s f ≡ false) (answer : List ℕ) where
      abbrev written : List SheetBlock
      written = blocks_on i j (written_on m s (sheets i j) w i j f answer)

      select_cell : (meets_sheet m w i j ≡ true → (select_on m s (sheets i j) w i j f answer).refusal ≡ 12 → ⊥)
          → cond (meets_sheet m w i j) (blocks_on i j (written_on m s (sheets i j) w i j f answer)) [] ≡ blocks_on i j (select_in m p u f)
      select_cell room =
          decide (meets_sheet m w i j)
          (λ e. ap (λ x. cond x written []) e
          ∙ ap (blocks_on i j)
          (select_plain m s p (sheets i j) fits.settings (sheet_below fits i j) (hold i j down across e) u f answer h (window_met m w i j ∙ e) (room e)))
          (λ e. ap (λ x. cond x written []) e ∙ sym (ap (blocks_on i j) (select_none p u (not_met m w i j e) m f)))

      places_cell : cond (meets_sheet m w i j) (select_on m s (sheets i j) w i j f answer).count 0 ≡ length (select_in m p u f)
      places_cell =
          decide (meets_sheet m w i j)
          (λ e. ap (λ x. cond x (select_on m s (sheets i j) w i j f answer).count 0) e
          ∙ select_places m s p (sheets i j) fits.settings (sheet_below fits i j) (hold i j down across e) u f answer h (window_met m w i j ∙ e))
          (λ e. ap (λ x. cond x (select_on m s (sheets i j) w i j f answer).count 0) e ∙ sym (ap length (select_none p u (not_met m w i j e) m f)))

  -- select: the blocks that these sheets have written, sheet after sheet, are those of the sheets' pictures
  pub select-asked : (f : ℕ) → f < s → (answers : ℕ → ℕ → List ℕ) → MetHaveRoom m s g sheets w f answers
      → select_asked m s g sheets w f answers ≡ select_sheets m g filler w f
  unfolding select_asked select_sheets
  select-asked f h answers room =
      list_below_same _ _ (sheets_for m g.rows) (λ i a. list_below_same _ _ (sheets_for m g.columns) (λ j b.
      select_cell i j a b f (lt-leb s f h) (answers i j) (room i j a b)))

  -- and with any answers, too short ones too, the counts add up to how many they are
  pub places-asked : (f : ℕ) → f < s → (answers : ℕ → ℕ → List ℕ) → places_asked m s g sheets w f answers ≡ length (select_sheets m g filler w f)
  unfolding places_asked
  places-asked f h answers =
      sum_below_same _ _ (sheets_for m g.rows) (λ i a. sum_below_same _ _ (sheets_for m g.columns) (λ j b.
      places_cell i j a b f (lt-leb s f h) (answers i j)))
      ∙ sym (select_count m g filler w f)

  module _ (lies : inside_ground g w ≡ true) where
    pub exist-asked : (f : ℕ) → f < s → exist_asked m s g sheets w f ≡ exist_in g.picture w f
    unfolding exist_asked exist_sheets
    exist-asked f h =
        some_below_same _ _ (sheets_for m g.rows) (λ i a. some_below_same _ _ (sheets_for m g.columns) (λ j b. exist_cell i j a b f (lt-leb s f h)))
        ∙ exist-sheets m g filler w lies f

    pub report-asked : report_asked m s g sheets w ≡ report_in g.picture w
    unfolding report_asked report_sheets
    report-asked =
        union_below_same _ _ (sheets_for m g.rows) (λ i a. union_below_same _ _ (sheets_for m g.columns) (λ j b. report_cell i j a b))
        ∙ report-sheets m g filler w lies

    pub area-asked : (f : ℕ) → f < s → area_asked m s g sheets w f ≡ area_in g.picture w f
    unfolding area_asked area_sheets
    area-asked f h =
        sum_below_same _ _ (sheets_for m g.rows) (λ i a. sum_below_same _ _ (sheets_for m g.columns) (λ j b. area_cell i j a b f (lt-leb s f h)))
        ∙ area-sheets m g filler w f lies

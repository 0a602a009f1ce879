-- What the clipped calls answer on the sheets of the ground, put together. Only accepted answers count: a sheet without a pixel of the window is refused
-- with 6, and counts as nothing. It is as well to ask only the sheets that have a pixel of the window. Rests on Together and on the clipped calls.
use Rattle.std.specs.Prelude.{ℕ, ◌<◌, ◌≤◌, ◌≡◌, Bool, true, false, cond, ◌&&◌, List, [], take, eqb}
use Rattle.definitions.specs.Picture.{Picture}
use Rattle.definitions.specs.List.{list_of_picture}
use Rattle.definitions.specs.Read.{room, records_of}
use Rattle.definitions.specs.Area.{summary_of}
use Rattle.definitions.specs.Refusal.{accepted, bad_settings}
use Rattle.definitions.specs.Calls.Clipped.{exist_clipped, report_clipped, area_clipped, select_clipped, select_answer_clipped}
use Rattle.definitions.specs.declared.Window.{Window}
use Rattle.definitions.specs.declared.Exists.{Exists}
use Rattle.definitions.specs.declared.Reported.{Reported}
use Rattle.definitions.specs.declared.Measured.{Measured}
use Rattle.definitions.specs.declared.Counted.{Counted}
use Rattle.history.specs.History.{Buffers}
use Rattle.sheets.specs.Ground.{Ground, in_ground, sheets_for, first_line, sheet_picture, on_sheet, meets_sheet}
use Rattle.sheets.specs.Together.{SheetBlock, blocks_on, some_sheet, union_sheets, sum_sheets, list_sheets}

-- a sheet's buffers hold the list and the summary of a picture; the log is not asked for
pub record SheetHolds (m s : ℕ) (p : Picture) (b : Buffers) : Type 0 where
  pub fits : b.n ≤ room b.keys b.bits
  pub list : records_of b.keys b.bits b.n ≡ list_of_picture m p
  pub summary : b.summary ≡ summary_of m s p

-- good settings, and ground and a filler with features below s: so that a sheet's list is one
pub record GroundFits (m s : ℕ) (g : Ground) (filler : ℕ) : Type 0 where
  pub settings : bad_settings m s ≡ false
  pub features : (row column : ℕ) → in_ground g row column ≡ true → g.picture row column < s
  pub filler_below : filler < s

-- each sheet of the ground holds its own picture's
abbrev pub AllHold : (m s : ℕ) (g : Ground) (filler : ℕ) (sheets : ℕ → ℕ → Buffers) → Type 0
AllHold m s g filler sheets =
    (i j : ℕ) → i < sheets_for m g.rows → j < sheets_for m g.columns → SheetHolds m s (sheet_picture m g filler i j) (sheets i j)

-- each sheet that has a pixel of the window does
abbrev pub MetHold : (m s : ℕ) (g : Ground) (filler : ℕ) (sheets : ℕ → ℕ → Buffers) (w : Window) → Type 0
MetHold m s g filler sheets w =
    (i j : ℕ) → i < sheets_for m g.rows → j < sheets_for m g.columns → meets_sheet m w i j ≡ true
    → SheetHolds m s (sheet_picture m g filler i j) (sheets i j)

-- the calls on sheet (i, j): row and column counted from the sheet's first
module _ (m s : ℕ) (b : Buffers) (w : Window) (i j : ℕ) where
  abbrev pub exist_on : (f : ℕ) → Exists
  exist_on f = exist_clipped m s b.keys b.bits b.n (on_sheet w.row (first_line m i)) (on_sheet w.column (first_line m j)) w.height w.width f

  abbrev pub report_on : Reported
  report_on = report_clipped m s b.keys b.bits b.n (on_sheet w.row (first_line m i)) (on_sheet w.column (first_line m j)) w.height w.width

  abbrev pub area_on : (f : ℕ) → Measured
  area_on f =
      area_clipped m s b.keys b.bits b.n b.summary (on_sheet w.row (first_line m i)) (on_sheet w.column (first_line m j)) w.height w.width f

  abbrev pub select_on : (f : ℕ) (answer : List ℕ) → Counted
  select_on f answer =
      select_clipped m s b.keys b.bits b.n (on_sheet w.row (first_line m i)) (on_sheet w.column (first_line m j)) w.height w.width f answer

  -- the keys that select has written into its answer
  abbrev pub written_on : (f : ℕ) (answer : List ℕ) → List ℕ
  written_on f answer =
      take (select_on f answer).count
      (select_answer_clipped m s b.keys b.bits b.n (on_sheet w.row (first_line m i)) (on_sheet w.column (first_line m j)) w.height w.width f answer)

module _ (m s : ℕ) (g : Ground) (sheets : ℕ → ℕ → Buffers) (w : Window) where
  -- some sheet's accepted answer is yes
  unfoldable pub exist_together : (f : ℕ) → Bool
  exist_together f = some_sheet m g (λ i j. eqb (exist_on m s (sheets i j) w i j f).refusal 0 && eqb (exist_on m s (sheets i j) w i j f).yes 1)

  -- the union of the accepted reports
  unfoldable pub report_together : ℕ
  report_together = union_sheets m g (λ i j. accepted (report_on m s (sheets i j) w i j).refusal (report_on m s (sheets i j) w i j).bits 0)

  -- the sum of the accepted areas
  unfoldable pub area_together : (f : ℕ) → ℕ
  area_together f = sum_sheets m g (λ i j. accepted (area_on m s (sheets i j) w i j f).refusal (area_on m s (sheets i j) w i j f).pixels 0)

  -- the blocks that the accepted selects have written, sheet after sheet
  unfoldable pub select_together : (f : ℕ) (answers : ℕ → ℕ → List ℕ) → List SheetBlock
  select_together f answers =
      list_sheets m g (λ i j. blocks_on i j
      (accepted (select_on m s (sheets i j) w i j f (answers i j)).refusal (written_on m s (sheets i j) w i j f (answers i j)) []))

  -- no sheet's select is refused for want of room in its answer
  abbrev pub AllHaveRoom : (f : ℕ) (answers : ℕ → ℕ → List ℕ) → Type 0
  AllHaveRoom f answers =
      (i j : ℕ) → i < sheets_for m g.rows → j < sheets_for m g.columns → (select_on m s (sheets i j) w i j f (answers i j)).refusal ≡ 12 → ⊥

  -- the same where only those sheets are asked that have a pixel of the window
  unfoldable pub exist_asked : (f : ℕ) → Bool
  exist_asked f = some_sheet m g (λ i j. meets_sheet m w i j && eqb (exist_on m s (sheets i j) w i j f).yes 1)

  unfoldable pub report_asked : ℕ
  report_asked = union_sheets m g (λ i j. cond (meets_sheet m w i j) (report_on m s (sheets i j) w i j).bits 0)

  unfoldable pub area_asked : (f : ℕ) → ℕ
  area_asked f = sum_sheets m g (λ i j. cond (meets_sheet m w i j) (area_on m s (sheets i j) w i j f).pixels 0)

  unfoldable pub select_asked : (f : ℕ) (answers : ℕ → ℕ → List ℕ) → List SheetBlock
  select_asked f answers = list_sheets m g (λ i j. cond (meets_sheet m w i j) (blocks_on i j (written_on m s (sheets i j) w i j f (answers i j))) [])

  -- the places that the answers of those sheets need in all, as their counts say it: accepted, or refused with 12
  unfoldable pub places_asked : (f : ℕ) (answers : ℕ → ℕ → List ℕ) → ℕ
  places_asked f answers = sum_sheets m g (λ i j. cond (meets_sheet m w i j) (select_on m s (sheets i j) w i j f (answers i j)).count 0)

  abbrev pub MetHaveRoom : (f : ℕ) (answers : ℕ → ℕ → List ℕ) → Type 0
  MetHaveRoom f answers =
      (i j : ℕ) → i < sheets_for m g.rows → j < sheets_for m g.columns → meets_sheet m w i j ≡ true
      → (select_on m s (sheets i j) w i j f (answers i j)).refusal ≡ 12 → ⊥

-- The calls with a window that may reach over the ground's own edge, clipped to the ground first: the answers are those of a scan of the overlap, and the whole
-- is refused with 6, on every sheet, exactly where no pixel is common. Rests on ClippedGround, SheetsTogether and SheetsAsked.
use Prim.Native.Nat.{ℕ, ◌<◌}
use mathlib.Core.Path.{◌≡◌, ap, ◌∙◌}
use mathlib.Core.Logic.{◌↔◌}
use mathlib.Core.Bool.{true, cond, ◌&&◌}
use native.Mathlib.Omega.{arith}
use lib.IntN.{ℤ}
use lib.Dec.{eqb}
use Rattle.keys.proofs.Cases.{decide}
use Rattle.definitions.specs.Window.{in_window, exist_in, report_in}
use Rattle.definitions.specs.Area.{area_in}
use Rattle.definitions.specs.declared.Window.{Window}
use Rattle.history.specs.History.{Buffers}
use Rattle.sheets.specs.Ground.{Ground, ground_window, is_empty, sheets_for}
use Rattle.sheets.specs.Together.{in_sheet_blocks, select_sheets}
use Rattle.sheets.specs.Calls.{GroundFits, AllHold, MetHold, report_on, exist_together, report_together, area_together, exist_asked, report_asked, area_asked}
use Rattle.sheets.proofs.ClippedGround.{OfGround, clipped_inside, empty_exactly, empty_not_met, some_met}
use Rattle.sheets.proofs.SheetSelect.{select-sheets}
use Rattle.sheets.proofs.SheetsTogether.{report_refusal, exist-together, report-together, area-together}
use Rattle.sheets.proofs.SheetsAsked.{exist-asked, report-asked, area-asked}

module _ (m s : ℕ) (g : Ground) (filler : ℕ) (fits : GroundFits m s g filler) (sheets : ℕ → ℕ → Buffers) (row column : ℤ) (height width : ℕ) where
  -- the overlap
  abbrev w : Window
  w = ground_window g row column height width

  module _ (hold : AllHold m s g filler sheets) where
    -- the answers of all sheets together
    pub exist_dragged : (f : ℕ) → f < s → exist_together m s g sheets (ground_window g row column height width) f ≡ exist_in g.picture (ground_window g row column height width) f
    exist_dragged f h = exist-together m s g filler fits sheets hold w (clipped_inside g row column height width) f h

    pub report_dragged : report_together m s g sheets (ground_window g row column height width) ≡ report_in g.picture (ground_window g row column height width)
    report_dragged = report-together m s g filler fits sheets hold w (clipped_inside g row column height width)

    pub area_dragged : (f : ℕ) → f < s → area_together m s g sheets (ground_window g row column height width) f ≡ area_in g.picture (ground_window g row column height width) f
    area_dragged f h = area-together m s g filler fits sheets hold w (clipped_inside g row column height width) f h

    all_six : is_empty w ≡ true → (i j : ℕ) → i < sheets_for m g.rows → j < sheets_for m g.columns → (report_on m s (sheets i j) w i j).refusal ≡ 6
    all_six e i j down across =
        report_refusal m s g filler fits sheets hold w i j down across ∙ ap (λ x. cond x 0 6) (empty_not_met m w e i j)

    -- every sheet is refused with 6 exactly where no pixel is common; exist, select and area are refused on the same sheets
    pub dragged_six : ((i j : ℕ) → i < sheets_for m g.rows → j < sheets_for m g.columns
        → (report_on m s (sheets i j) (ground_window g row column height width) i j).refusal ≡ 6)
        ↔ ((r c : ℕ) → OfGround g row column height width r c → ⊥)
    dragged_six = (
      λ six. (empty_exactly g row column height width).0
          (decide (is_empty w)
          (λ e. e)
          (λ e.
          let x = some_met m g w (clipped_inside g row column height width) e in
          let zero : (report_on m s (sheets x.down x.across) w x.down x.across).refusal ≡ 0 =
          report_refusal m s g filler fits sheets hold w x.down x.across x.down_below x.across_below ∙ ap (λ t. cond t 0 6) x.met in
          let refused = six x.down x.across x.down_below x.across_below in
          absurd (omega arith))),
      λ none. all_six ((empty_exactly g row column height width).1 none),
    )

  module _ (hold : MetHold m s g filler sheets (ground_window g row column height width)) where
    -- and of those alone that have a pixel of the overlap
    pub exist_dragged_asked : (f : ℕ) → f < s → exist_asked m s g sheets (ground_window g row column height width) f ≡ exist_in g.picture (ground_window g row column height width) f
    exist_dragged_asked f h = exist-asked m s g filler fits sheets w hold (clipped_inside g row column height width) f h

    pub report_dragged_asked : report_asked m s g sheets (ground_window g row column height width) ≡ report_in g.picture (ground_window g row column height width)
    report_dragged_asked = report-asked m s g filler fits sheets w hold (clipped_inside g row column height width)

    pub area_dragged_asked : (f : ℕ) → f < s → area_asked m s g sheets (ground_window g row column height width) f ≡ area_in g.picture (ground_window g row column height width) f
    area_dragged_asked f h = area-asked m s g filler fits sheets w hold (clipped_inside g row column height width) f h

-- the pixels of the blocks that select gives are those of the overlap that have the feature
pub select_dragged : (m : ℕ) (g : Ground) (filler : ℕ) (row column : ℤ) (height width f r c : ℕ)
    → in_sheet_blocks m (select_sheets m g filler (ground_window g row column height width) f) r c
    ≡ in_window (ground_window g row column height width) r c && eqb (g.picture r c) f
select_dragged m g filler row column height width f r c =
    select-sheets m g filler (ground_window g row column height width) f (clipped_inside g row column height width) r c

-- Filler never counts: with another filler the sheets of the ground answer the same together. Rests on the laws of the sheets.
use Prim.Native.Nat.{ℕ}
use mathlib.Core.Path.{◌≡◌, sym, ◌∙◌}
use mathlib.Core.Bool.{true}
use Rattle.definitions.specs.declared.Window.{Window}
use Rattle.sheets.specs.Ground.{Ground, inside_ground}
use Rattle.sheets.specs.Together.{in_sheet_blocks, exist_sheets, report_sheets, area_sheets, select_sheets}
use Rattle.sheets.proofs.SheetArea.{area-sheets}
use Rattle.sheets.proofs.SheetExist.{exist-sheets, report-sheets}
use Rattle.sheets.proofs.SheetSelect.{select-sheets}

module _ (m : ℕ) (g : Ground) (filler filler' : ℕ) (w : Window) (lies : inside_ground g w ≡ true) where
  pub exist_filler : (f : ℕ) → exist_sheets m g filler w f ≡ exist_sheets m g filler' w f
  exist_filler f = exist-sheets m g filler w lies f ∙ sym (exist-sheets m g filler' w lies f)

  pub report_filler : report_sheets m g filler w ≡ report_sheets m g filler' w
  report_filler = report-sheets m g filler w lies ∙ sym (report-sheets m g filler' w lies)

  pub area_filler : (f : ℕ) → area_sheets m g filler w f ≡ area_sheets m g filler' w f
  area_filler f = area-sheets m g filler w f lies ∙ sym (area-sheets m g filler' w f lies)

  -- the blocks have the same pixels
  pub select_filler : (f row column : ℕ) → in_sheet_blocks m (select_sheets m g filler w f) row column ≡ in_sheet_blocks m (select_sheets m g filler' w f) row column
  select_filler f row column = select-sheets m g filler w f lies row column ∙ sym (select-sheets m g filler' w f lies row column)

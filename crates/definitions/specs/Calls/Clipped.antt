-- Exist, report, select and area of a window that may reach over the edge (specification S7): each is the strict call on the window clipped to the
-- raster, with its table of refusals. So 6 is given where height or width is zero or nothing overlaps. Rests on Clip and on the strict calls.
use Rattle.std.specs.Prelude.{ℕ, List, ℤ}
use Rattle.definitions.specs.Clip.{clipped_window}
use Rattle.definitions.specs.Calls.Exist.{exist}
use Rattle.definitions.specs.Calls.Report.{report}
use Rattle.definitions.specs.Calls.Select.{select, select_answer}
use Rattle.definitions.specs.Calls.Area.{area}
use Rattle.definitions.specs.declared.Exists.{Exists}
use Rattle.definitions.specs.declared.Reported.{Reported}
use Rattle.definitions.specs.declared.Counted.{Counted}
use Rattle.definitions.specs.declared.Measured.{Measured}

module _ (m s : ℕ) (keys bits : List ℕ) (n : ℕ) where
  abbrev pub exist_clipped : (row column : ℤ) (height width f : ℕ) → Exists
  exist_clipped row column height width f = exist m s keys bits n (clipped_window m row column height width) f

  abbrev pub report_clipped : (row column : ℤ) (height width : ℕ) → Reported
  report_clipped row column height width = report m s keys bits n (clipped_window m row column height width)

  abbrev pub select_clipped : (row column : ℤ) (height width f : ℕ) (answer : List ℕ) → Counted
  select_clipped row column height width f answer = select m s keys bits n (clipped_window m row column height width) f answer

  abbrev pub select_answer_clipped : (row column : ℤ) (height width f : ℕ) (answer : List ℕ) → List ℕ
  select_answer_clipped row column height width f answer = select_answer m s keys bits n (clipped_window m row column height width) f answer

  abbrev pub area_clipped : (summary : List ℕ) (row column : ℤ) (height width f : ℕ) → Measured
  area_clipped summary row column height width f = area m s keys bits n summary (clipped_window m row column height width) f

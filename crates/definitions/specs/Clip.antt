-- A window that was dragged, perhaps over the edge, and its overlap with the raster (specification S7). A line is a row or a column; its number
-- is a whole number, negative before the raster. Rests on Window.
use Rattle.std.specs.Prelude.{ℕ, ◌-◌, ◌^◌, min, ℤ, pos, negsuc, ◌+ℤ◌}
use Rattle.definitions.specs.declared.Window.{Window}

-- the line itself, or the raster's first where it stands before that
unfoldable pub not_before : (line : ℤ) → ℕ
not_before (pos line) = line
not_before (negsuc before) = 0

-- where lines of the raster end that are dragged: at the end of both
unfoldable pub overlap_end : (start : ℤ) (length side : ℕ) → ℕ
overlap_end start length side = min (not_before (start +ℤ pos length)) side

-- how many of the lines dragged lie in the raster; 0 where none does
unfoldable pub overlap_length : (start : ℤ) (length side : ℕ) → ℕ
overlap_length start length side = overlap_end start length side - not_before start

-- the overlap with a raster of that side; without a common pixel its height or width is 0
unfoldable pub overlap_window : (side : ℕ) (row column : ℤ) (height width : ℕ) → Window
overlap_window side row column height width =
    record {
      row = not_before row;
      column = not_before column;
      height = overlap_length row height side;
      width = overlap_length column width side;
    }

abbrev pub clipped_window : (m : ℕ) (row column : ℤ) (height width : ℕ) → Window
clipped_window m row column height width = overlap_window (2 ^ m) row column height width

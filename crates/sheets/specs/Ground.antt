-- The ground: what a survey of any size covers, as one picture of so many rows and columns; and its sheets, squares of side 2 ^ m that are cut from its
-- north-west corner, with a filler past its edge. A window over the ground's own edge is clipped to the ground first. Rests on Clip.
use Rattle.std.specs.Prelude.{ℕ, ◌+◌, ◌-◌, ◌*◌, ◌/◌, ◌^◌, min, Bool, cond, ◌&&◌, ◌||◌, leb, ltb, eqb, ℤ}
use Rattle.std.proofs.Math.IntN.{sub_ℕ}
use Rattle.definitions.specs.Picture.{Picture}
use Rattle.definitions.specs.Clip.{not_before, overlap_length, clipped_window}
use Rattle.definitions.specs.declared.Window.{Window}

pub record Ground : Type 0 where
  pub rows : ℕ
  pub columns : ℕ
  pub picture : Picture

-- the pixel is one of the ground
unfoldable pub in_ground : (g : Ground) (row column : ℕ) → Bool
in_ground g row column = ltb row g.rows && ltb column g.columns

-- the window does not reach over the ground's edge
unfoldable pub inside_ground : (g : Ground) (w : Window) → Bool
inside_ground g w = leb (w.row + w.height) g.rows && leb (w.column + w.width) g.columns

-- the overlap of the ground with a window that was dragged, perhaps over its edge; without a common pixel its height or width is 0. It begins no later than
-- the ground ends, so that it lies in the ground then too
unfoldable pub ground_window : (g : Ground) (row column : ℤ) (height width : ℕ) → Window
ground_window g row column height width =
    record {
      row = min (not_before row) g.rows;
      column = min (not_before column) g.columns;
      height = overlap_length row height g.rows;
      width = overlap_length column width g.columns;
    }

-- the window has no pixel: its height or its width is 0
unfoldable pub is_empty : (w : Window) → Bool
is_empty w = eqb w.height 0 || eqb w.width 0

-- how many sheets it takes for so many rows or columns, the last perhaps with filler
unfoldable pub sheets_for : (m lines : ℕ) → ℕ
sheets_for m lines = (lines + (2 ^ m - 1)) / 2 ^ m

-- the first row or column of sheet number i
abbrev pub first_line : (m i : ℕ) → ℕ
first_line m i = i * 2 ^ m

-- the ground from a row and a column on, with filler past its edge
unfoldable pub cut_at : (g : Ground) (filler top left : ℕ) → Picture
cut_at g filler top left row column = cond (in_ground g (top + row) (left + column)) (g.picture (top + row) (left + column)) filler

-- the picture of sheet (i, j)
abbrev pub sheet_picture : (m : ℕ) (g : Ground) (filler i j : ℕ) → Picture
sheet_picture m g filler i j = cut_at g filler (first_line m i) (first_line m j)

-- a row or a column of the ground, counted from a sheet's first; negative before the sheet
unfoldable pub on_sheet : (line first : ℕ) → ℤ
on_sheet line first = sub_ℕ line first

-- a window of the ground, moved to the sheet that begins at a row and a column, and clipped to it
abbrev pub seen_from : (m : ℕ) (w : Window) (top left : ℕ) → Window
seen_from m w top left = clipped_window m (on_sheet w.row top) (on_sheet w.column left) w.height w.width

-- the same on sheet (i, j)
abbrev pub sheet_window : (m : ℕ) (w : Window) (i j : ℕ) → Window
sheet_window m w i j = seen_from m w (first_line m i) (first_line m j)

-- lines from a first on have a line of the window
unfoldable pub meets : (start length first side : ℕ) → Bool
meets start length first side = leb 1 length && (ltb start (first + side) && ltb first (start + length))

-- sheet (i, j) has a pixel of the window
unfoldable pub meets_sheet : (m : ℕ) (w : Window) (i j : ℕ) → Bool
meets_sheet m w i j = meets w.row w.height (first_line m i) (2 ^ m) && meets w.column w.width (first_line m j) (2 ^ m)

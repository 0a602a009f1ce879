-- Windows and the three queries, as scans of the window's pixels (specification S6). Rests on Picture and Bits.
use Rattle.std.specs.Prelude.{ℕ, zero, suc, ◌+◌, ◌^◌, Bool, false, cond, not, ◌&&◌, ◌||◌, List, [], ◌∷◌, ◌++◌, leb, ltb, eqb}
use Rattle.std.specs.Int.Bits.{bit_or}
use Rattle.keys.specs.Key.{root_key, child_key}
use Rattle.definitions.specs.Picture.{Picture, every_pixel}
use Rattle.definitions.specs.declared.Window.{Window}

-- a window by its four numbers, as C passes it
abbrev pub window_at : (row column height width : ℕ) → Window
window_at row column height width = record { row = row; column = column; height = height; width = width }

-- height and width are at least 1, and it lies wholly inside the raster
unfoldable pub is_window : (m : ℕ) (w : Window) → Bool
is_window m w =
    leb 1 w.height
    && leb 1 w.width
    && (leb (w.row + w.height) (2 ^ m) && leb (w.column + w.width) (2 ^ m))

-- 6
abbrev pub bad_window : (m : ℕ) (w : Window) → Bool
bad_window m w = not (is_window m w)

-- the pixel lies in the window
unfoldable pub in_window : (w : Window) (row column : ℕ) → Bool
in_window w row column =
    leb w.row row
    && ltb row (w.row + w.height)
    && (leb w.column column && ltb column (w.column + w.width))

-- the features of a run of pixels in a row
unfoldable pub features_of_row : (p : Picture) (row column width : ℕ) → List ℕ
features_of_row p row column zero = []
features_of_row p row column (suc width) = p row column ∷ features_of_row p row (suc column) width

unfoldable pub features_of_rows : (p : Picture) (row column width height : ℕ) → List ℕ
features_of_rows p row column width zero = []
features_of_rows p row column width (suc height) = features_of_row p row column width ++ features_of_rows p (suc row) column width height

-- the features of the window's pixels, row after row
unfoldable pub features_in : (p : Picture) (w : Window) → List ℕ
features_in p w = features_of_rows p w.row w.column w.width w.height

unfoldable pub occurs : (f : ℕ) (features : List ℕ) → Bool
occurs f [] = false
occurs f (x ∷ xs) = eqb x f || occurs f xs

unfoldable pub union_of : (features : List ℕ) → ℕ
union_of [] = 0
union_of (x ∷ xs) = bit_or (2 ^ x) (union_of xs)

-- some pixel of the window has feature f
unfoldable pub exist_in : (p : Picture) (w : Window) (f : ℕ) → Bool
exist_in p w f = occurs f (features_in p w)

-- the bitstring of all features in the window
unfoldable pub report_in : (p : Picture) (w : Window) → ℕ
report_in p w = union_of (features_in p w)

-- the largest blocks at or below the block of height k with key κ of which every pixel passes a test, in key order
unfoldable pub blocks_from : (test : ℕ → ℕ → Bool) (k row column κ : ℕ) → List ℕ
blocks_from test zero row column κ = cond (every_pixel test zero row column) (κ ∷ []) []
blocks_from test (suc k) row column κ =
    cond (every_pixel test (suc k) row column) (κ ∷ [])
    (blocks_from test k row column (child_key κ k 1)
    ++ (blocks_from test k row (column + 2 ^ k) (child_key κ k 2)
    ++ (blocks_from test k (row + 2 ^ k) column (child_key κ k 3) ++ blocks_from test k (row + 2 ^ k) (column + 2 ^ k) (child_key κ k 4))))

-- the pixel lies in the window and has feature f
abbrev pub has_in : (p : Picture) (w : Window) (f row column : ℕ) → Bool
has_in p w f row column = in_window w row column && eqb (p row column) f

-- all pixels of the block do
unfoldable pub is_given : (p : Picture) (w : Window) (f k row column : ℕ) → Bool
is_given p w f k row column = every_pixel (has_in p w f) k row column

-- the largest such blocks at or below a block, and of the map
abbrev pub select_from : (p : Picture) (w : Window) (f k row column κ : ℕ) → List ℕ
select_from p w f k row column κ = blocks_from (has_in p w f) k row column κ

unfoldable pub select_in : (m : ℕ) (p : Picture) (w : Window) (f : ℕ) → List ℕ
select_in m p w f = select_from p w f m 0 0 root_key

-- all pixels of the block lie in the window
unfoldable pub is_inside : (w : Window) (k row column : ℕ) → Bool
is_inside w k row column = every_pixel (in_window w) k row column

-- the largest such blocks at or below a block
abbrev pub largest_from : (w : Window) (k row column κ : ℕ) → List ℕ
largest_from w k row column κ = blocks_from (in_window w) k row column κ

-- the largest blocks of a window
unfoldable pub largest_blocks : (m : ℕ) (w : Window) → List ℕ
largest_blocks m w = largest_from w m 0 0 root_key

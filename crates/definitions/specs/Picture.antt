-- A picture is a feature for each row and column; a raster is one, row after row (specification S2.5, S2.8). Assumes nothing.
use Rattle.std.specs.Prelude.{ℕ, zero, suc, ◌+◌, ◌*◌, ◌^◌, Bool, ◌&&◌, List, get_or, ltb, eqb}

-- the feature at a row and a column
abbrev pub Picture : Type 0
Picture = ℕ → ℕ → ℕ

-- a raster of side 2 ^ m: row after row, row 0 at the top, column 0 at the left
abbrev pub picture_of_raster : (m : ℕ) (raster : List ℕ) → Picture
picture_of_raster m raster row column = get_or raster (row * 2 ^ m + column) 0

abbrev pub all_four : (nw ne sw se : Bool) → Bool
all_four nw ne sw se = nw && ne && (sw && se)

-- every pixel of the block of height k whose first row and column are given passes the test
unfoldable pub every_pixel : (test : ℕ → ℕ → Bool) (k row column : ℕ) → Bool
every_pixel test zero row column = test row column
every_pixel test (suc k) row column =
    all_four (every_pixel test k row column)
    (every_pixel test k row (column + 2 ^ k))
    (every_pixel test k (row + 2 ^ k) column)
    (every_pixel test k (row + 2 ^ k) (column + 2 ^ k))

-- the block has one feature: that of its first pixel
unfoldable pub one_feature : (p : Picture) (k row column : ℕ) → Bool
one_feature p k row column = every_pixel (λ r c. eqb (p r c) (p row column)) k row column

unfoldable pub features_below : (s : ℕ) (p : Picture) (k row column : ℕ) → Bool
features_below s p k row column = every_pixel (λ r c. ltb (p r c) s) k row column

-- Areas and the summary (specification S8): how many pixels of a window or of a block have a feature, each counted by a scan of the pixels, and
-- the counts of all blocks of one level in key order; and a sum over all features. Rests on Window.
use Rattle.std.specs.Prelude.{ℕ, zero, suc, ◌+◌, ◌-◌, ◌*◌, ◌/◌, ◌%◌, ◌^◌, min, Bool, true, false, cond, not, ◌&&◌, List, [], ◌∷◌, ◌++◌, length, eqb}
use Rattle.definitions.specs.Picture.{Picture}
use Rattle.definitions.specs.Window.{features_of_rows, features_in}
use Rattle.definitions.specs.declared.Window.{Window}

-- how often f is among the features
unfoldable pub count_of : (f : ℕ) (features : List ℕ) → ℕ
count_of f [] = 0
count_of f (x ∷ xs) = cond (eqb x f) 1 0 + count_of f xs

-- the area of feature f in the window: how many of its pixels have it
unfoldable pub area_in : (p : Picture) (w : Window) (f : ℕ) → ℕ
area_in p w f = count_of f (features_in p w)

-- how many pixels of the block of height k at a row and a column have feature f
unfoldable pub pixels_with : (p : Picture) (k row column f : ℕ) → ℕ
pixels_with p k row column f = count_of f (features_of_rows p row column (2 ^ k) (2 ^ k))

-- the pixel counts of a block from feature f on, so many of them, in slot order
unfoldable pub counts_from : (p : Picture) (k row column f more : ℕ) → List ℕ
counts_from p k row column f zero = []
counts_from p k row column f (suc more) = pixels_with p k row column f ∷ counts_from p k row column (suc f) more

-- the s pixel counts of a block
abbrev pub counts_of : (s : ℕ) (p : Picture) (k row column : ℕ) → List ℕ
counts_of s p k row column = counts_from p k row column 0 s

-- the level of the summary's blocks: 2, or m if m is smaller
abbrev pub summary_level : (m : ℕ) → ℕ
summary_level m = min 2 m

-- the height of the summary's blocks
abbrev pub summary_height : (m : ℕ) → ℕ
summary_height m = m - summary_level m

-- the counts of all blocks of height k that are d levels below the block at a row and a column, in key order: NW, NE, SW, SE
unfoldable pub summary_below : (s : ℕ) (p : Picture) (k d row column : ℕ) → List ℕ
summary_below s p k zero row column = counts_of s p k row column
summary_below s p k (suc d) row column =
    summary_below s p k d row column
    ++ (summary_below s p k d row (column + 2 ^ (k + d))
    ++ (summary_below s p k d (row + 2 ^ (k + d)) column ++ summary_below s p k d (row + 2 ^ (k + d)) (column + 2 ^ (k + d))))

-- the summary of a picture of side 2 ^ m
unfoldable pub summary_of : (m s : ℕ) (p : Picture) → List ℕ
summary_of m s p = summary_below s p (summary_height m) (summary_level m) 0 0

-- the key of block number b, counted in key order from 0, among the blocks of height k that are d levels below the block whose key is 0
unfoldable pub key_below : (k d b : ℕ) → ℕ
key_below k zero b = 0
key_below k (suc d) b = (b / 4 ^ d + 1) * 5 ^ (k + d) + key_below k d (b % 4 ^ d)

-- the key of block number b of the summary
unfoldable pub block_key : (m b : ℕ) → ℕ
block_key m b = key_below (summary_height m) (summary_level m) b

-- how many places a summary has
abbrev pub summary_length : (m s : ℕ) → ℕ
summary_length m s = 4 ^ summary_level m * s

unfoldable pub same_numbers : (xs ys : List ℕ) → Bool
same_numbers [] [] = true
same_numbers [] (y ∷ ys) = false
same_numbers (x ∷ xs) [] = false
same_numbers (x ∷ xs) (y ∷ ys) = eqb x y && same_numbers xs ys

-- 18 for the length alone, in build and in filling
abbrev pub bad_summary_length : (m s : ℕ) (summary : List ℕ) → Bool
bad_summary_length m s summary = not (eqb (length summary) (summary_length m s))

-- 18: the summary has the wrong length, or does not hold this map's counts
unfoldable pub no_summary : (m s : ℕ) (p : Picture) (summary : List ℕ) → Bool
no_summary m s p summary = not (same_numbers summary (summary_of m s p))

-- the sum of what a function gives for the features below s
unfoldable pub sum_below : (ℕ → ℕ) → ℕ → ℕ
sum_below g zero = 0
sum_below g (suc s) = sum_below g s + g s

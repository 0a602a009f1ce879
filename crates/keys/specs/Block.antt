-- The square that a key stands for, the key of a pixel, and when a block is another's ancestor. Specification S3.12: row 0 is at the top,
-- digits 3 and 4 go south, 2 and 4 go east. Rests on Key.
use Rattle.std.specs.Prelude.{ℕ, zero, suc, ◌+◌, ◌-◌, ◌*◌, ◌/◌, ◌%◌, ◌^◌, Bool, cond, ◌&&◌, ◌||◌, leb, ltb, eqb}
use Rattle.keys.specs.Key.{height_of}

abbrev pub is_south : (digit : ℕ) → Bool
is_south digit = leb 3 digit

abbrev pub is_east : (digit : ℕ) → Bool
is_east digit = eqb digit 2 || eqb digit 4

-- the first row of a block: each southern digit adds the side of a quadrant there
unfoldable pub row_of : (m κ : ℕ) → ℕ
row_of zero κ = 0
row_of (suc k) κ = cond (is_south (κ / 5 ^ k)) (2 ^ k) 0 + row_of k (κ % 5 ^ k)

-- the first column, by the eastern digits
unfoldable pub column_of : (m κ : ℕ) → ℕ
column_of zero κ = 0
column_of (suc k) κ = cond (is_east (κ / 5 ^ k)) (2 ^ k) 0 + column_of k (κ % 5 ^ k)

unfoldable pub side_of : (m κ : ℕ) → ℕ
side_of m κ = 2 ^ height_of m κ

-- the pixel lies in the block
unfoldable pub in_block : (m κ row column : ℕ) → Bool
in_block m κ row column =
    leb (row_of m κ) row
    && ltb row (row_of m κ + side_of m κ)
    && (leb (column_of m κ) column && ltb column (column_of m κ + side_of m κ))

-- the digit of the quadrant that a row and a column lie in, in a square whose quadrants have the given side
abbrev pub quadrant_digit : (side row column : ℕ) → ℕ
quadrant_digit side row column = cond (ltb row side) (cond (ltb column side) 1 2) (cond (ltb column side) 3 4)

-- a row or a column, counted inside its quadrant
abbrev pub in_quadrant : (side x : ℕ) → ℕ
in_quadrant side x = cond (ltb x side) x (x - side)

-- the key of the pixel at a row and a column of a square of side 2 ^ k: the quadrant's digit, and then the key inside the quadrant
unfoldable pub pixel_key : (k row column : ℕ) → ℕ
pixel_key zero row column = 0
pixel_key (suc k) row column =
    cond (ltb row (2 ^ k))
    (cond (ltb column (2 ^ k)) (1 * 5 ^ k + pixel_key k row column) (2 * 5 ^ k + pixel_key k row (column - 2 ^ k)))
    (cond (ltb column (2 ^ k)) (3 * 5 ^ k + pixel_key k (row - 2 ^ k) column) (4 * 5 ^ k + pixel_key k (row - 2 ^ k) (column - 2 ^ k)))

-- the key of the block of a level around a pixel: the pixel's digits down to that level, and then zeros
unfoldable pub key_around : (m level row column : ℕ) → ℕ
key_around m level row column = pixel_key m row column / 5 ^ (m - level) * 5 ^ (m - level)

-- every row and column of b is one of a
unfoldable pub contains : (m a b : ℕ) → Bool
contains m a b =
    leb (row_of m a) (row_of m b)
    && leb (row_of m b + side_of m b) (row_of m a + side_of m a)
    && (leb (column_of m a) (column_of m b) && leb (column_of m b + side_of m b) (column_of m a + side_of m a))

-- a is a different, larger block that contains b
unfoldable pub is_ancestor : (m a b : ℕ) → Bool
is_ancestor m a b = ltb (side_of m b) (side_of m a) && contains m a b

-- the keys of a block and of all below it, as an interval
unfoldable pub in_interval : (m κ x : ℕ) → Bool
in_interval m κ x = leb κ x && ltb x (κ + 5 ^ height_of m κ)

-- Keys (specification S3): m digits in base 5, the root 0, a child at level d adds digit * 5 ^ (m - d).
-- A block's height is the number of levels below it, m - d. Assumes nothing.
use Rattle.std.specs.Prelude.{ℕ, zero, suc, ◌+◌, ◌-◌, ◌*◌, ◌/◌, ◌%◌, ◌^◌, Bool, true, cond, ◌&&◌, List, [], ◌∷◌, ltb, eqb}

abbrev pub root_key : ℕ
root_key = 0

-- the largest resolution, and so the deepest level
abbrev pub deepest_level : ℕ
deepest_level = 10

-- the side of the largest raster
abbrev pub deepest_side : ℕ
deepest_side = 2 ^ deepest_level

-- the keys of the largest raster are below this number, and no list has more records
abbrev pub all_keys : ℕ
all_keys = 5 ^ deepest_level

-- the largest number of slots
abbrev pub slot_limit : ℕ
slot_limit = 32

-- the m digits of a key, the highest first
unfoldable pub digits_of : (m κ : ℕ) → List ℕ
digits_of zero κ = []
digits_of (suc k) κ = κ / 5 ^ k ∷ digits_of k (κ % 5 ^ k)

unfoldable pub only_zeros : (digits : List ℕ) → Bool
only_zeros [] = true
only_zeros (d ∷ ds) = eqb d 0 && only_zeros ds

-- some digits that are not zero, and then zeros
unfoldable pub digits_then_zeros : (digits : List ℕ) → Bool
digits_then_zeros [] = true
digits_then_zeros (d ∷ ds) = cond (eqb d 0) (only_zeros ds) (digits_then_zeros ds)

-- a number of m digits, of which the first d are 1 to 4 and the others 0
unfoldable pub valid_key : (m κ : ℕ) → Bool
valid_key m κ = ltb κ (5 ^ m) && digits_then_zeros (digits_of m κ)

-- how many digits stand before the first zero
unfoldable pub digits_before_zero : (digits : List ℕ) → ℕ
digits_before_zero [] = 0
digits_before_zero (d ∷ ds) = cond (eqb d 0) 0 (suc (digits_before_zero ds))

-- the level d of a valid key
unfoldable pub level_of : (m κ : ℕ) → ℕ
level_of m κ = digits_before_zero (digits_of m κ)

-- the number of levels below a block
unfoldable pub height_of : (m κ : ℕ) → ℕ
height_of m κ = m - level_of m κ

-- how many zeros stand at the end of the m digits: as many as a valid key's block has levels below it
unfoldable pub zeros_at_end : (m κ : ℕ) → ℕ
zeros_at_end zero κ = 0
zeros_at_end (suc k) κ = cond (eqb (κ % 5) 0) (suc (zeros_at_end k (κ / 5))) 0

-- the child that has height k: digit 1 NW, 2 NE, 3 SW, 4 SE
abbrev pub child_key : (κ k digit : ℕ) → ℕ
child_key κ k digit = κ + digit * 5 ^ k

-- the key with its last digit from 1 to 4 made 0; the root's is the root
unfoldable pub parent_key : (m κ : ℕ) → ℕ
parent_key m κ = κ / 5 ^ suc (height_of m κ) * 5 ^ suc (height_of m κ)

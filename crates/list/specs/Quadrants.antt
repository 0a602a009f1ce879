-- The quadrants of a block one after the other, as a loop over them counts them. Rests on nothing.
use Rattle.std.specs.Prelude.{ℕ, zero, suc, ◌+◌}

-- first row and first column of a quadrant, numbered from 0
unfoldable pub quadrant_row : ℕ → ℕ → ℕ → ℕ
quadrant_row zero row half = row
quadrant_row (suc zero) row half = row
quadrant_row (suc (suc d)) row half = row + half

unfoldable pub quadrant_column : ℕ → ℕ → ℕ → ℕ
quadrant_column zero column half = column
quadrant_column (suc zero) column half = column + half
quadrant_column (suc (suc zero)) column half = column
quadrant_column (suc (suc (suc d))) column half = column + half

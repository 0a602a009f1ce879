-- The square of a key as the code carries it, and what a number says that is read as a key. Rests on Key and Block.
use Rattle.std.specs.Prelude.{ℕ, cond, Option, Some, None}
use Rattle.keys.specs.Key.{valid_key}
use Rattle.keys.specs.Block.{row_of, column_of, side_of}
use Rattle.keys.specs.declared.Square.{Square}

-- its first row and column, and its side
abbrev pub square_of_key : (m κ : ℕ) → Square
square_of_key m κ = record { row = row_of m κ; column = column_of m κ; side = side_of m κ }

-- a key gives its square, and a number that is no key gives none
abbrev pub square_read : (m κ : ℕ) → Option Square
square_read m κ = cond (valid_key m κ) (Some (square_of_key m κ)) None

-- What the counting and the writing of one block ask and answer, for the contracts of src/ alone. A raster is read here by the length
-- of its rows, which the code carries; at 2 ^ m that is the picture of the raster (specification S2.5).
use Rattle.std.specs.Prelude.{ℕ, ◌+◌, ◌*◌, ◌^◌, ◌≤◌, ◌<◌, ◌≡◌, false, cond, List, length, get_or, drop, set}
use Rattle.std.proofs.lemmas.List.Edits.{sets}
use Rattle.keys.specs.Key.{slot_limit, all_keys, deepest_side}
use Rattle.definitions.specs.Picture.{Picture, one_feature}
use Rattle.definitions.specs.Bits.{union_of_four, bits_of}
use Rattle.list.specs.Check.{one_slot}
use Rattle.definitions.specs.List.{Record, list_of, keys_of, values_of}

-- the feature at a row and a column of rows of the given length
abbrev pub picture_of_rows : ℕ → List ℕ → Picture
picture_of_rows side raster row column = get_or raster (row * side + column) 0

-- four pixels from a place on, as the digits of one number
abbrev pub word_at : List ℕ → ℕ → ℕ
word_at raster i = get_or raster i 0 + 256 * get_or raster (i + 1) 0 + 65536 * get_or raster (i + 2) 0 + 16777216 * get_or raster (i + 3) 0

-- the block lies in a square raster whose features are those of the slots there are
pub record Inside (raster : List ℕ) (side height row column : ℕ) : Type 0 where
  pub deep : height ≤ 10
  pub square : length raster ≡ side * side
  pub narrow : side ≤ deepest_side
  pub rows : row + 2 ^ height ≤ side
  pub columns : column + 2 ^ height ≤ side
  pub features : (i : ℕ) → get_or raster i 0 < slot_limit

-- what a block of four quadrants has: one record where they have one feature together, else its own and theirs
pub record Joined (union under bits count : ℕ) : Type 0 where
  pub bits_are : bits ≡ union
  pub count-is : count ≡ cond (one_slot union) 1 (1 + under)

-- the bits of a block and the number of its records
pub record Tallied (p : Picture) (height row column bits count : ℕ) : Type 0 where
  pub bits_are : bits ≡ bits_of p height row column
  pub count-is : count ≡ length (list_of p height row column 0)

-- a block whose record is to stand at a place has room for what is below it; a block of one feature has nothing below it
pub record Fitting (p : Picture) (height row column key place : ℕ) (keys bits : List ℕ) : Type 0 where
  pub key_fits : key + 5 ^ height ≤ all_keys
  pub place_fits : place ≤ key
  pub keys_room : one_feature p height row column ≡ false → place + length (list_of p height row column key) ≤ length keys
  pub bits_room : one_feature p height row column ≡ false → place + length (list_of p height row column key) ≤ length bits

-- four places in their order; there is room for all where something is to be written
pub record FourAsked (key step place union second third fourth : ℕ) (keys bits : List ℕ) : Type 0 where
  pub key_fits : key + 4 * step ≤ all_keys
  pub place_fits : place ≤ all_keys
  pub first_second : place + 1 < second
  pub second_third : second < third
  pub third_fourth : third < fourth
  pub keys_room : one_slot union ≡ false → fourth < length keys
  pub bits_room : one_slot union ≡ false → fourth < length bits

-- four numbers written at four places, the last place first
abbrev pub four_set : List ℕ → ℕ → ℕ → ℕ → ℕ → ℕ → ℕ → ℕ → ℕ → List ℕ
four_set l a b c d w x y z = set (set (set (set l d z) c y) b x) a w

-- the quadrants' own records stand at their places where the four have several features together; else nothing was written
pub record FourWritten (key step place nw ne sw se second third fourth last : ℕ) (keys bits keys' bits' : List ℕ) (union next : ℕ) : Type 0 where
  pub union_is : union ≡ union_of_four nw ne sw se
  pub next-is : next ≡ cond (one_slot union) (place + 1) last
  pub keys_are : keys' ≡ cond (one_slot union) keys (four_set keys (place + 1) second third fourth (key + step) (key + 2 * step) (key + 3 * step) (key + 4 * step))
  pub bits_are : bits' ≡ cond (one_slot union) bits (four_set bits (place + 1) second third fourth nw ne sw se)

-- the records below a block: all but its own
abbrev pub below : Picture → ℕ → ℕ → ℕ → ℕ → List Record
below p height row column key = drop 1 (list_of p height row column key)

-- the records below a block stand past its own place, its own place and all others are as before, and the next free place is known
pub record Written (p : Picture) (height row column key place : ℕ) (keys bits keys' bits' : List ℕ) (union next : ℕ) : Type 0 where
  pub union_is : union ≡ bits_of p height row column
  pub next-is : next ≡ place + length (list_of p height row column key)
  pub keys_are : keys' ≡ sets keys (place + 1) (keys_of (below p height row column key))
  pub bits_are : bits' ≡ sets bits (place + 1) (values_of (below p height row column key))

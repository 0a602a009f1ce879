-- A block as the code carries it, the quadrant of it that a digit tells, and what has to hold for that to be told. Rests on Block and Under.
use Rattle.std.specs.Prelude.{ℕ, ◌+◌, ◌-◌, ◌^◌, ◌≤◌, ◌<◌, cond}
use Rattle.keys.specs.Key.{root_key, child_key, all_keys, deepest_side}
use Rattle.keys.specs.Block.{is_south, is_east}
use Rattle.keys.specs.Under.{MapBlock}
use Rattle.keys.specs.declared.Square.{Square}
use Rattle.keys.specs.declared.block.TreeBlock.{TreeBlock}

-- the whole map
abbrev pub root_of : (m : ℕ) → TreeBlock
root_of m = record { height = m; row = 0; column = 0; key = root_key }

-- the quadrant of a digit. The sum stands inside the choice, so that it computes where the digit is told
abbrev pub child_of : (b : TreeBlock) (digit : ℕ) → TreeBlock
child_of b digit =
    record {
      height = b.height - 1;
      row = cond (is_south digit) (b.row + 2 ^ (b.height - 1)) b.row;
      column = cond (is_east digit) (b.column + 2 ^ (b.height - 1)) b.column;
      key = child_key b.key (b.height - 1) digit;
    }

-- its pixels
abbrev pub block_square : (b : TreeBlock) → Square
block_square b = record { row = b.row; column = b.column; side = 2 ^ b.height }

-- it is a block of the map
abbrev pub InMap : (m : ℕ) (b : TreeBlock) → Type 0
InMap m b = MapBlock m b.height b.row b.column b.key

-- its keys end within those of the deepest map
pub record KeysEnd (b : TreeBlock) : Type 0 where
  pub deep : b.height ≤ 10
  pub keys : b.key + 5 ^ b.height ≤ all_keys

-- it has quadrants, and its numbers are those of a map
pub record Divisible (b : TreeBlock) : Type 0 where
  pub positive : 0 < b.height
  pub deep : b.height ≤ 10
  pub rows : b.row + 2 ^ b.height ≤ deepest_side
  pub columns : b.column + 2 ^ b.height ≤ deepest_side
  pub keys : b.key + 5 ^ b.height ≤ all_keys

-- The pixel counts of a block of an accepted list's summary. Rests on Area of the definitions and on list's Taken.
use Rattle.std.specs.Prelude.{ℕ, List}
use Rattle.keys.specs.Block.{row_of, column_of}
use Rattle.definitions.specs.Area.{summary_height, block_key, counts_of}
use Rattle.list.specs.declared.accepted_list.Accepted.{Accepted}
use Rattle.list.specs.Taken.{picture_listed}

-- the counts of block number b, of all 32 features that a bitstring has a slot for
abbrev pub block_counts : Accepted → (b : ℕ) → List ℕ
block_counts list b = counts_of 32 (picture_listed list) (summary_height list.m) (row_of list.m (block_key list.m b)) (column_of list.m (block_key list.m b))

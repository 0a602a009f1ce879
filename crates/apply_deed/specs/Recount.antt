-- What counting anew after a step asks, and which blocks it passes over. Only contracts need these; proofs/Recounted.antt has their laws. Rests on Step and on
-- the meeting of a block.
use Rattle.std.specs.Prelude.{ℕ, ◌^◌, ◌≤◌, ◌<◌, ◌≡◌, Bool, false, List}
use Rattle.keys.specs.Key.{slot_limit}
use Rattle.keys.specs.Block.{row_of, column_of}
use Rattle.keys.specs.declared.block.TreeBlock.{TreeBlock}
use Rattle.definitions.specs.Picture.{Picture}
use Rattle.definitions.specs.Area.{summary_height, summary_of, block_key}
use Rattle.list.specs.Own.{OwnList, shown_by}
use Rattle.deeds.specs.Step.{Step}
use Rattle.deeds.specs.Meeting.{block_at, Untouched}

-- the list is already changed by the step, and the summary still has the counts from before
pub record StepOutdated (t : Step) (m s : ℕ) (keys bits : List ℕ) (n : ℕ) (summary : List ℕ) : Type 0 where
  pub deep : m ≤ 10
  pub few : s ≤ slot_limit
  pub own : OwnList m keys bits n
  pub before : Picture
  pub counts : summary ≡ summary_of m s before
  pub outside : (row column : ℕ) → row < 2 ^ m → column < 2 ^ m → t.touches row column ≡ false → shown_by m keys bits n row column ≡ before row column

-- block number b of the summary
abbrev pub counted_block : (m b : ℕ) → TreeBlock
counted_block m b = block_at (summary_height m) (row_of m (block_key m b)) (column_of m (block_key m b)) (block_key m b)

-- no says that the step touches none of its pixels; yes says nothing, and it is then counted anew
pub record PassedBy (t : Step) (m b : ℕ) (meets : Bool) : Type 0 where
  pub apart : meets ≡ false → Untouched t (summary_height m) (row_of m (block_key m b)) (column_of m (block_key m b))

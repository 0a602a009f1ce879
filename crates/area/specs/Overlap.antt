-- What a block and a window have in common, in numbers, and when a block is counted as a whole. Only contracts need these; proofs/OverlapArea.antt says
-- what they mean.
use Rattle.std.specs.Prelude.{ℕ, ◌+◌, ◌-◌, ◌*◌, ◌≤◌, ◌<◌, min, Bool, ◌&&◌, leb}
use Rattle.keys.specs.Key.{deepest_side}
use Rattle.definitions.specs.declared.Window.{Window}
use Rattle.walk.specs.Walk.{is_within}
use Rattle.walk.specs.declared.Spot.{Spot}

-- how many numbers two runs have in common: from the later start to the earlier end
abbrev pub common : (first side start length : ℕ) → ℕ
common first side start length = min (first + side) (start + length) - (start + (first - start))

-- two runs of rows or columns of a raster that have some in common
pub record Crossing (first side start length : ℕ) : Type 0 where
  pub end : first + side ≤ deepest_side
  pub past : start + length ≤ deepest_side
  pub before_end : start < first + side
  pub before_past : first < start + length

-- how many pixels of the block lie in the window
unfoldable pub overlap_of : Spot → Window → ℕ
overlap_of s w = common s.row s.side w.row w.height * common s.column s.side w.column w.width

-- the block lies in the window, and is at the summary's level or below it, in a raster of the given side
unfoldable pub is_summed : ℕ → Spot → Window → Bool
is_summed side s w = leb (s.side * 4) side && is_within s w

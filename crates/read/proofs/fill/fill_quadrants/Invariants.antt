-- `fill::fill_quadrants`: after each turn the quadrants that are left, once painted, make the node's picture.
use Rattle.std.proofs.Common.{◌*◌}
use Rattle.read.proofs.FillTurn.{FillReached}
use Rattle.read.proofs.fill.fill_quadrants.Given as goal

abbrev pub invariant-loop-d : goal.invariant-loop-d
invariant-loop-d g l = FillReached l.bits l.initial.raster l.at l.wide l.place (2 * g.B.Block.SIDE) l.raster l.next l.d

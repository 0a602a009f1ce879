-- `fill::fill_node`: after each turn the quadrants that are left, once painted, make the node's picture. The side falls at each call.
use Rattle.read.proofs.FillTurn.{FillReached}
use Rattle.read.proofs.fill.+fill_node.Given as goal

abbrev pub decreases-fill_node : goal.decreases-fill_node
decreases-fill_node l = l.side

abbrev pub invariant-loop-d : goal.invariant-loop-d
invariant-loop-d l = FillReached l.bits l.initial.raster l.at l.wide l.place l.side l.raster l.next l.d

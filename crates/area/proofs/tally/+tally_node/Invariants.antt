-- What the loop of `tally_node` keeps: the pixels of the quadrants passed are counted. The area falls from node to node.
use Rattle.definitions.specs.Bits.{feature_of}
use Rattle.area.proofs.TallyTurn.{TallyReached}
use Rattle.area.proofs.tally.+tally_node.Given as goal

abbrev pub decreases-tally_node : goal.decreases-tally_node
decreases-tally_node l = l.area

abbrev pub invariant-loop : goal.invariant-loop
invariant-loop l =
    TallyReached l.bits l.at l.area (feature_of l.bit) l.pixels l.next l.counter

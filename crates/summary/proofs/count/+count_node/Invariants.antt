-- The counters have the pixels of the quadrants before number d, whose records end at `next`. The area falls with each call.
use Rattle.summary.proofs.CountTurn.{CountReached}
use Rattle.summary.proofs.count.+count_node.Given as goal

abbrev pub decreases-count_node : goal.decreases-count_node
decreases-count_node l = l.area

abbrev pub invariant-loop-d : goal.invariant-loop-d
invariant-loop-d l =
    CountReached l.bits l.initial.counts l.at l.area l.counts l.next l.d

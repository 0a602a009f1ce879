-- The children before the digit are checked and counted, and their records end at `next`. The step falls with each call.
use Rattle.summary.proofs.PassTurn.{Passing}
use Rattle.summary.proofs.pass.+pass_node.Given as goal

abbrev pub decreases-pass_node : goal.decreases-pass_node
decreases-pass_node l = l.step

abbrev pub invariant-loop-digit : goal.invariant-loop-digit
invariant-loop-digit l =
    Passing l.keys l.bits l.initial.counts l.at l.key l.own l.step l.area l.counts l.next l.union l.digit

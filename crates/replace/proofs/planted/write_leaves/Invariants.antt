-- What is still to be written after the leaves that are done gives the same as all of it at the start.
use Rattle.replace.proofs.ExchangeLeaves.{Planting}
use Rattle.replace.proofs.planted.write_leaves.Given as goal

abbrev pub invariant-loop-done : goal.invariant-loop-done
invariant-loop-done l = Planting l.initial.keys l.initial.bits l.at l.parent l.step l.first l.count l.g l.keys l.bits l.done

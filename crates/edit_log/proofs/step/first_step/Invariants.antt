-- `step::first_step`: the first step of the records is the first of those up to where the walk stands. Rests on First.
use Rattle.edit_log.proofs.First.{Walk}
use Rattle.edit_log.proofs.step.first_step.Given as goal

abbrev pub invariant-loop-start : goal.invariant-loop-start
invariant-loop-start l =
    Walk l.keys l.values l.used l.end l.start

abbrev pub decreases-loop-start : goal.decreases-loop-start
decreases-loop-start l =
    l.start

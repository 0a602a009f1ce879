-- The counters have the pixels of the quadrants before number d, whose records end at `next`.
use Rattle.summary.proofs.CountTurn.{CountReached}
use Rattle.summary.proofs.count.count_sixteen.Given as goal

abbrev pub invariant-loop-d : goal.invariant-loop-d
invariant-loop-d l =
    CountReached l.bits l.initial.counts l.at 16 l.counts l.next l.d

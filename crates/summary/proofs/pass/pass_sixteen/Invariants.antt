-- The children before the digit are checked and counted, at the step 5, and their records end at `next`.
use Rattle.summary.proofs.PassTurn.{Passing}
use Rattle.summary.proofs.pass.pass_sixteen.Given as goal

abbrev pub invariant-loop-digit : goal.invariant-loop-digit
invariant-loop-digit l =
    Passing l.keys l.bits l.initial.counts l.at l.key l.own 5 16 l.counts l.next l.union l.digit

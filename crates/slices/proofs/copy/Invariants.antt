-- What the loop of `copy` keeps: the first i places are copied. Rests on Moves.
use Rattle.slices.proofs.Moves.{MovedSoFar}
use Rattle.slices.proofs.copy.Given as goal

abbrev pub invariant-loop-done : goal.invariant-loop-done
invariant-loop-done l = MovedSoFar l.from l.start l.count l.initial.to l.at l.to l.done

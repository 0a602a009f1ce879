-- What the loop of `shift_down` keeps: the first i places are moved, and those that are still to be read are as they were. Rests on Moves.
use Rattle.slices.proofs.Moves.{MovedSoFar}
use Rattle.slices.proofs.shift_down.Given as goal

abbrev pub invariant-loop-i : goal.invariant-loop-i
invariant-loop-i l = MovedSoFar l.initial.slice l.from l.count l.initial.slice l.to l.slice l.i

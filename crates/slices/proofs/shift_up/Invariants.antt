-- What the loop of `shift_up` keeps: i places are left, and all after them are moved. Rests on Moves.
use Rattle.slices.proofs.Moves.{Raised}
use Rattle.slices.proofs.shift_up.Given as goal

abbrev pub invariant-loop-i : goal.invariant-loop-i
invariant-loop-i l = Raised l.initial.slice l.from l.count l.to l.slice l.i

-- `fill::fill`: so many records are written, and the next has this key.
use Rattle.bit_strings.proofs.Filling.{Filling}
use Rattle.bit_strings.proofs.fill.fill.Given as goal

abbrev pub invariant-loop-i : goal.invariant-loop-i
invariant-loop-i l = Filling l.m l.nodes l.leaves l.n l.initial.keys l.initial.bits l.keys l.bits l.key l.i l.j

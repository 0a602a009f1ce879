-- `pack::next_byte`: the bits so far and those to come make the byte.
use Rattle.bit_strings.proofs.Bitwise.{Making}
use Rattle.bit_strings.proofs.pack.next_byte.Given as goal

abbrev pub invariant-loop-count : goal.invariant-loop-count
invariant-loop-count l = Making l.leaves l.values l.at l.byte l.place l.count

-- `pack::pack`: after each turn one byte more is written.
use Rattle.bit_strings.proofs.Bitwise.{WrittenBytes}
use Rattle.bit_strings.proofs.pack.pack.Given as goal

abbrev pub invariant-loop-k : goal.invariant-loop-k
invariant-loop-k l = WrittenBytes l.leaves l.values l.count l.initial.out l.out l.place l.k

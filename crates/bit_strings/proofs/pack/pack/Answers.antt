-- `pack::pack`: one byte more is written. Rests on Bitwise.
use Rattle.std.proofs.Common.{arith}
use Rattle.bit_strings.proofs.Bitwise.{written_turn, written_end}
use Rattle.bit_strings.proofs.pack.pack.Goals as goal

pub loop-k-preserved : goal.loop-k-preserved
loop-k-preserved c = written_turn c.loop-k.invariant _ (omega arith) c.requires c.next_byte-next.ensures

pub returns : goal.returns
returns c = written_end c.loop-k.invariant (omega arith)

-- `pack::next_byte`: one bit more is in the byte. Rests on Bitwise.
use Rattle.std.proofs.Common.{arith}
use Rattle.bit_strings.proofs.NextBit.{byte_digit}
use Rattle.bit_strings.proofs.Bitwise.{making_turn, making_end}
use Rattle.bit_strings.proofs.pack.next_byte.Goals as goal

pub loop-count-preserved : goal.loop-count-preserved
loop-count-preserved c = rw (c.from.ensures, byte_digit c.next_bit-next.result.bit) (making_turn _ _ _ _ _ _ c.loop-count.invariant (omega arith) _ c.next_bit-next.ensures)

pub returns : goal.returns
returns c = making_end _ _ _ _ _ _ c.loop-count.invariant (omega arith)

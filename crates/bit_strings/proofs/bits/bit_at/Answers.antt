-- `bits::bit_at`: past the last byte there is none, and else it is a digit of its byte. Rests on Bytes.
use Rattle.std.proofs.Common.{arith}
use Rattle.bit_strings.proofs.Bytes.{bit_past, bit_found}
use Rattle.bit_strings.proofs.bits.bit_at.Goals as goal

pub returns-then-bytes-k : goal.returns-then-bytes-k
returns-then-bytes-k c = bit_past c.args.bytes.now c.args.i c.if-bytes-k.true

pub returns : goal.returns
returns c = rw c.from-byte.ensures (bit_found c.args.bytes.now c.args.i (omega arith))

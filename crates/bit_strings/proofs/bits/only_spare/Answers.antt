-- `bits::only_spare`: none left, a byte too many, or the rest of the last byte.
use Rattle.bit_strings.proofs.Bytes.{none_there, spare_none, spare_byte, spare_more, spare_last}
use lib.ListN.{get_or}
use lib.Dec.{eqb}
use mathlib.Core.Path.{sym, ◌∙◌, ap}
use Prim.Native.Nat.{◌/◌, ◌%◌}
use native.Mathlib.Omega.{arith}
use Rattle.bit_strings.proofs.bits.only_spare.Goals as goal

pub returns-then-bytes-k : goal.returns-then-bytes-k
returns-then-bytes-k c = let s = c.args in sym (spare_none _ (none_there s.bytes.now s.at c.if-bytes-k.true))

pub returns-then-at-eq0 : goal.returns-then-at-eq0
returns-then-at-eq0 c = let s = c.args in sym (spare_byte s.bytes.now s.at (omega arith) c.if-at-eq0.true)

pub returns-then-k-bytes : goal.returns-then-k-bytes
returns-then-k-bytes c = let s = c.args in sym (spare_more s.bytes.now s.at (omega arith) c.if-k-bytes.true)

pub returns : goal.returns
returns c =
    let s = c.args in
    rw c.from-byte.ensures (ap (λ p. eqb (◌%◌ (get_or s.bytes.now (s.at / 8) 0) p) 0) c.power_of_two.ensures
    ∙ spare_last s.bytes.now s.at (omega arith) (omega arith) c.if-at-eq0.false)

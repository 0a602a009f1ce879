-- `check::count_records`: what is left decides as the whole does, and past the last block what is left over.
use Rattle.bit_strings.proofs.Counting.{CountedPair}
use Prim.Native.Nat.{◌-◌}
use Rattle.bit_strings.proofs.check.count_records.Given as goal

abbrev pub invariant-loop-key : goal.invariant-loop-key
invariant-loop-key l =
    CountedPair l.m l.nodes l.leaves l.key l.i l.j

abbrev pub decreases-loop-key : goal.decreases-loop-key
decreases-loop-key l =
    l.end - l.key

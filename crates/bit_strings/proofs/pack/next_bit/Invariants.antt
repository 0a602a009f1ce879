-- `pack::next_bit`: the string goes on from the place as it did from the first, and that place is given on.
use Rattle.std.proofs.Common.{◌≡◌}
use Rattle.bit_strings.proofs.Packing.{string_from}
use Rattle.bit_strings.proofs.pack.next_bit.Given as goal

abbrev pub invariant-loop-place : goal.invariant-loop-place
invariant-loop-place l = (l.after ≡ l.place) × (string_from l.leaves l.values l.place ≡ string_from l.leaves l.values l.at)

-- `bits::begins_four`: the bits that are left decide as the four do.
use Rattle.std.proofs.Common.{◌≡◌, ◌+◌, ◌-◌, drop}
use Rattle.definitions.specs.BitStrings.{bits_in, begins_with}
use Rattle.bit_strings.proofs.bits.begins_four.Given as goal

abbrev pub invariant-loop-i : goal.invariant-loop-i
invariant-loop-i l = begins_with (4 - l.i) l.bit (drop (l.at + l.i) (bits_in l.bytes)) ≡ begins_with 4 l.bit (drop l.at (bits_in l.bytes))

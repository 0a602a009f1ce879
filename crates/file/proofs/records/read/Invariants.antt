-- `records::read`: the first records of the file are in the two slices. Rests on ReadBytes.
use Rattle.file.proofs.ReadBytes.{Read}
use Rattle.file.proofs.records.read.Given as goal

abbrev pub invariant-loop-i : goal.invariant-loop-i
invariant-loop-i l = Read l.width l.file l.n l.initial.keys l.initial.bits l.keys l.bits l.i

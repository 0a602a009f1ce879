-- `records::write_records`: the first records of the two slices are in the file. Rests on RecordBytes.
use lib.ListN.{length}
use Rattle.file.proofs.RecordBytes.{WrittenRecords}
use Rattle.file.proofs.records.write_records.Given as goal

abbrev pub invariant-loop-i : goal.invariant-loop-i
invariant-loop-i l = WrittenRecords l.width l.keys l.bits (length l.keys) l.initial.file l.file l.i

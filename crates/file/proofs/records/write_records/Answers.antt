-- `records::write_records`: each turn writes one record more. Rests on RecordBytes.
use Rattle.file.proofs.RecordBytes.{none_written, record_stored}
use Rattle.file.proofs.records.write_records.Goals as goal

pub loop-i-init : goal.loop-i-init
loop-i-init c = none_written _ _ _ _ _

pub loop-i-preserved : goal.loop-i-preserved
loop-i-preserved c = record_stored c.requires c.loop-i.invariant c.loop-i-test.true c.put_record.ensures

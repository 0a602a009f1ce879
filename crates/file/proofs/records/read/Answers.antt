-- `records::read`: each turn reads one record more. Rests on ReadBytes.
use Rattle.file.proofs.ReadBytes.{record_taken, all_read}
use Rattle.file.proofs.records.read.Goals as goal

pub loop-i-preserved : goal.loop-i-preserved
loop-i-preserved c = record_taken c.requires c.loop-i.invariant c.loop-i-test.true c.key_at.ensures c.bits_at.ensures

pub returns-clause-keys_after : goal.returns-clause-keys_after
returns-clause-keys_after c = (all_read c.loop-i.invariant c.loop-i-test.false).0

pub returns-clause-bits_after : goal.returns-clause-bits_after
returns-clause-bits_after c = (all_read c.loop-i.invariant c.loop-i-test.false).1

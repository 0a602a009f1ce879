-- The rows from the last one looked at decide.
use Rattle.offices.proofs.Counted.{RowsDecide}
use Rattle.offices.proofs.table.WaiverTable.ascends.Given as goal

abbrev pub invariant-loop-next : goal.invariant-loop-next
invariant-loop-next l = RowsDecide l.self.offices.now l.self.ids.now l.self.waived.now l.next

-- The rows passed come before the row, and its place among the others is still to be found.
use Rattle.definitions.specs.Offices.{waiver_of}
use Rattle.offices.proofs.Place.{Searched}
use Rattle.offices.proofs.table.WaiverTable.find.Given as goal

abbrev pub invariant-loop-place : goal.invariant-loop-place
invariant-loop-place l = Searched (waiver_of l.row.office l.row.id l.row.key) l.self.offices.now l.self.ids.now l.self.waived.now l.place

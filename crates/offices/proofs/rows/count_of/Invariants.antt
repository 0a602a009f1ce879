-- The office was found so often in the places passed.
use Rattle.std.specs.Prelude.{take}
use Rattle.offices.proofs.Counted.{OfficeCounting}
use Rattle.offices.proofs.rows.count_of.Given as goal

abbrev pub invariant-loop-other : goal.invariant-loop-other
invariant-loop-other l = OfficeCounting l.office (take l.rows l.offices) l.other-index l.count

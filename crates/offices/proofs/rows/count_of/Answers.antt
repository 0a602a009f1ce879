-- The office of the place is counted, or passed.
use Rattle.offices.proofs.Counted.{count_found, count_passed, count_ends}
use Rattle.offices.proofs.rows.count_of.Goals as goal
use Rattle.offices.proofs.rows.count_of.Goals.{then-other-office, else-other-office}

pub loop-other-preserved : goal.loop-other-preserved
loop-other-preserved c =
    elim c.if-other-office.branch [
      | then-other-office w ↦ rw w.count-is (count_found _ _ _ _ c.loop-other-test.true w.if-other-office.true c.loop-other.invariant)
      | else-other-office w ↦ rw w.count-is (count_passed _ _ _ _ c.loop-other-test.true w.if-other-office.false c.loop-other.invariant)
    ]

pub returns : goal.returns
returns c = count_ends _ _ _ _ c.loop-other-test.false c.loop-other.invariant

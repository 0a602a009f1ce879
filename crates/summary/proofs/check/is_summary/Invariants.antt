-- The blocks before number b have the right counts.
use Rattle.list.specs.Taken.{picture_listed}
use Rattle.summary.proofs.IsSummary.{FirstRight}
use Rattle.summary.proofs.check.is_summary.Given as goal

abbrev pub invariant-loop-b : goal.invariant-loop-b
invariant-loop-b l = FirstRight l.counted.list.m l.s (picture_listed l.counted.list) l.summary l.b

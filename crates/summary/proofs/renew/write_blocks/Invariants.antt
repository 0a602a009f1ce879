-- The blocks from the first number up to b are written, and no other place.
use Rattle.list.specs.Taken.{picture_listed}
use Rattle.summary.proofs.Renewed.{Begun}
use Rattle.summary.proofs.renew.write_blocks.Given as goal

abbrev pub invariant-loop-b : goal.invariant-loop-b
invariant-loop-b g l = Begun l.list.m l.s (picture_listed l.list) l.from l.until l.initial.summary l.summary l.b

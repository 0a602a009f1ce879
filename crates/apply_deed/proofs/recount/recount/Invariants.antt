-- The places of the blocks below `b` have the counts of the new list, and the others are as they were.
use Rattle.list.specs.Taken.{picture_listed}
use Rattle.summary.proofs.CountedUpTo.{CountedUpTo}
use Rattle.apply_deed.proofs.recount.recount.Given as goal

abbrev pub invariant-loop-b : goal.invariant-loop-b
invariant-loop-b l = CountedUpTo l.list.m l.s (picture_listed l.list) l.initial.summary l.summary l.b

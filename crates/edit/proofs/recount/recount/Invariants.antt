-- The places of the blocks before number b are those of the new list, and the others those from before.
use Rattle.list.specs.Taken.{picture_listed}
use Rattle.summary.proofs.CountedUpTo.{CountedUpTo}
use Rattle.edit.proofs.recount.recount.Given as goal

abbrev pub invariant-loop-b : goal.invariant-loop-b
invariant-loop-b l = CountedUpTo l.list.m l.s (picture_listed l.list) l.initial.summary l.summary l.b

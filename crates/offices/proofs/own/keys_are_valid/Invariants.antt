-- The keys from the place on decide.
use Rattle.offices.proofs.OwnRows.{Valid}
use Rattle.offices.proofs.own.keys_are_valid.Given as goal

abbrev pub invariant-loop-number : goal.invariant-loop-number
invariant-loop-number l = Valid l.m l.waived l.number-index

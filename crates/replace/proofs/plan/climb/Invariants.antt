-- What is left to climb from this height gives what was to be climbed at the start.
use Rattle.std.proofs.Common.{length}
use Rattle.definitions.specs.Read.{records_of}
use Rattle.replace.proofs.PlanClimb.{Climbing}
use Rattle.replace.proofs.plan.climb.Given as goal

abbrev pub invariant-loop-height : goal.invariant-loop-height
invariant-loop-height l = Climbing l.m (records_of l.keys l.bits (length l.keys)) l.key l.b l.low l.height l.step

-- The waivers passed have no larger id.
use Rattle.finding_runs.specs.Step.{OwnFrom}
use Rattle.finding_runs.proofs.waivers.own_end.Given as goal

abbrev pub invariant-loop-place : goal.invariant-loop-place
invariant-loop-place l = OwnFrom l.waiver_ids l.from l.count l.id l.place

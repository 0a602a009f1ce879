-- The waiver at the place has a larger id, or is passed.
use Rattle.finding_runs.proofs.StepTests.{own_none, own_next, own_all}
use Rattle.finding_runs.proofs.waivers.own_end.Goals as goal

pub loop-place-init : goal.loop-place-init
loop-place-init c = own_none _ _ _ _ c.requires.0

pub returns-then-id-waiver_ids : goal.returns-then-id-waiver_ids
returns-then-id-waiver_ids c = record { run = c.loop-place.invariant; past = λ inside. c.if-id-waiver_ids.true }

pub loop-place-preserved : goal.loop-place-preserved
loop-place-preserved c = own_next _ _ _ _ _ c.loop-place.invariant c.loop-place-test.true c.if-id-waiver_ids.false

pub returns : goal.returns
returns c = own_all _ _ _ _ _ c.loop-place.invariant c.loop-place-test.false

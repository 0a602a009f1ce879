-- `is_sound`: each turn checks the last step of the records that are left. Rests on Sound.
use Rattle.edit_log.proofs.Sound.{ends, stops, stepped, falls, turns}
use Rattle.edit_log.proofs.is_sound.Goals as goal

pub returns-then-not-ends_in_step : goal.returns-then-not-ends_in_step
returns-then-not-ends_in_step c = stops c.loop-end.invariant c.loop-end-test.true c.ends_in_step.ensures c.if-not-ends_in_step.true

pub last_step-end-requires : goal.last_step-end-requires
last_step-end-requires c = stepped c.loop-end.invariant c.loop-end-test.true c.ends_in_step.ensures c.if-not-ends_in_step.false

pub loop-end-smaller : goal.loop-end-smaller
loop-end-smaller c = falls c.loop-end.invariant c.loop-end-test.true c.ends_in_step.ensures c.if-not-ends_in_step.false _ c.last_step-end.ensures

pub loop-end-preserved : goal.loop-end-preserved
loop-end-preserved c = turns c.loop-end.invariant c.loop-end-test.true c.ends_in_step.ensures c.if-not-ends_in_step.false _ c.last_step-end.ensures

pub returns : goal.returns
returns c = ends c.loop-end.invariant c.loop-end-test.false

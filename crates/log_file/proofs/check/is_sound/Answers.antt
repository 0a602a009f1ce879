-- `check::is_sound`: each turn checks the last step of the records that are left. Rests on Sound of crate edit_log and InBytes.
use Rattle.std.proofs.Common.{arith, refl}
use Rattle.edit_log.proofs.Sound.{ends, stops, stepped, falls, turns}
use Rattle.log_file.proofs.InBytes.{in_keys, in_values}
use Rattle.log_file.proofs.check.is_sound.Goals as goal

pub loop-end-init : goal.loop-end-init
loop-end-init c = record { within = omega arith; in_keys = in_keys _ c.requires.2; in_values = in_values _ c.requires.2; same = refl }

pub returns-then-not-ends_in_step : goal.returns-then-not-ends_in_step
returns-then-not-ends_in_step c = stops c.loop-end.invariant c.loop-end-test.true c.ends_in_step.ensures c.if-not-ends_in_step.true

pub last_step-end-requires : goal.last_step-end-requires
last_step-end-requires c = stepped c.loop-end.invariant c.loop-end-test.true c.ends_in_step.ensures c.if-not-ends_in_step.false

pub loop-end-smaller : goal.loop-end-smaller
loop-end-smaller c = falls c.loop-end.invariant c.loop-end-test.true c.ends_in_step.ensures c.if-not-ends_in_step.false _ c.last_step-end.ensures

pub loop-end-preserved : goal.loop-end-preserved
loop-end-preserved c = turns c.loop-end.invariant c.loop-end-test.true c.ends_in_step.ensures c.if-not-ends_in_step.false _ c.last_step-end.ensures

pub returns : goal.returns
returns c = ends c.loop-end.invariant c.loop-end-test.false

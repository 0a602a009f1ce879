-- `plan::climb` meets its contract: what is left to climb gives what was to be climbed at the start.
use Rattle.std.proofs.Common.{arith}
use Rattle.replace.proofs.PlanClimb.{climb_begins, climb_step, climb_stops, climb_goes, climb_done}
use Rattle.replace.proofs.plan.climb.Goals as goal

pub loop-height-init : goal.loop-height-init
loop-height-init c = climb_begins _ _ _ _ _ _ c.requires.m_bound.1 c.power_of_five-step.ensures

pub parent_bits-parent-requires : goal.parent_bits-parent-requires
parent_bits-parent-requires c =
    let step = climb_step c.loop-height.invariant c.requires.m_bound.0 c.loop-height-test.true in
    record { sorted = c.requires.sorted; paired = c.requires.paired; key_lt_all_keys = (c.requires.m_bound.2, step.0, step.1) }

pub returns-then-parent-b : goal.returns-then-parent-b
returns-then-parent-b c = climb_stops c.loop-height.invariant c.loop-height-test.true _ c.parent_bits-parent.ensures c.if-parent-b.true

pub overflow_mul-step : goal.overflow_mul-step
overflow_mul-step c =
    let step = climb_step c.loop-height.invariant c.requires.m_bound.0 c.loop-height-test.true in
    omega arith

pub loop-height-preserved : goal.loop-height-preserved
loop-height-preserved c = climb_goes c.loop-height.invariant c.loop-height-test.true _ c.parent_bits-parent.ensures c.if-parent-b.false

pub returns : goal.returns
returns c = climb_done c.loop-height.invariant c.loop-height-test.false

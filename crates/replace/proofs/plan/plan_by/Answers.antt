-- `plan::plan_by` meets its contract: the numbers of the plan are those of the filled block's standing.
use Rattle.std.proofs.Common.{sym, ◌∙◌, arith}
use Rattle.replace.proofs.PlanTop.{top_fits}
use Rattle.replace.proofs.PlanPlaces.{plan_filled_by, filled_until, filled_step, filled_valid, plan_listed, plan_high, plan_inside}
use Rattle.replace.proofs.plan.plan_by.Goals as goal

pub power_of_five-step-requires : goal.power_of_five-step-requires
power_of_five-step-requires c = top_fits _ _ _ _ _ _ c.top_of-top.ensures c.args.list.now.deepest

pub nonzero_div-filled : goal.nonzero_div-filled
nonzero_div-filled c = (filled_until (plan_filled_by _ _ _ c.args.list.now.deepest c.requires.valid c.top_of-top.ensures c.power_of_five-step.ensures)).0

pub overflow_mul-filled : goal.overflow_mul-filled
overflow_mul-filled c =
    let h = filled_until (plan_filled_by _ _ _ c.args.list.now.deepest c.requires.valid c.top_of-top.ensures c.power_of_five-step.ensures) in
    omega arith

pub filled_standing-requires : goal.filled_standing-requires
filled_standing-requires c =
    let f = plan_filled_by _ _ _ c.args.list.now.deepest c.requires.valid c.top_of-top.ensures c.power_of_five-step.ensures in
    record { standing_value = c.requires.standing_value; block_in = (filled_valid f, filled_step f) }

pub overflow_sub-result : goal.overflow_sub-result
overflow_sub-result c =
    (plan_high c.args.list.now.own (plan_filled_by _ _ _ c.args.list.now.deepest c.requires.valid c.top_of-top.ensures c.power_of_five-step.ensures)
    _ _ _ (sym c.filled_standing.ensures ∙ c.in-Inside.is)).0

pub overflow_sub-result-in-Inside : goal.overflow_sub-result-in-Inside
overflow_sub-result-in-Inside c =
    (plan_high c.args.list.now.own (plan_filled_by _ _ _ c.args.list.now.deepest c.requires.valid c.top_of-top.ensures c.power_of_five-step.ensures)
    _ _ _ (sym c.filled_standing.ensures ∙ c.in-Inside.is)).1

pub returns-in-Listed : goal.returns-in-Listed
returns-in-Listed c =
    plan_listed c.args.list.now.own (plan_filled_by _ _ _ c.args.list.now.deepest c.requires.valid c.top_of-top.ensures c.power_of_five-step.ensures)
    _ _ _ _ (sym c.filled_standing.ensures ∙ c.in-Listed.is) c.top_of-top.ensures

pub returns-in-Inside : goal.returns-in-Inside
returns-in-Inside c =
    plan_inside c.args.list.now.own (plan_filled_by _ _ _ c.args.list.now.deepest c.requires.valid c.top_of-top.ensures c.power_of_five-step.ensures)
    _ _ _ (sym c.filled_standing.ensures ∙ c.in-Inside.is) _ _ c.top_of-top.ensures

-- `is_ordered` meets its contract: after each turn the entries descend exactly when those that are left do.
use Rattle.std.proofs.Common.{◌∙◌, arith}
use Rattle.keys.proofs.LastZeros.{keys_height}
use Rattle.keys.proofs.Powers.{five_le}
use Rattle.deeds.proofs.Chains.{run_ended}
use Rattle.deeds.proofs.EntryTurns.{limit_is, turn_less, turn_rest, turn_valid, turn_within, descends_on, descends_not, descends_over}
use Rattle.deeds.proofs.run.is_ordered.Goals as goal

pub loop-left-init : goal.loop-left-init
loop-left-init c = (c.requires.1, limit_is _ _ _ c.power_of_five-limit.ensures)

pub last_entry-last-requires : goal.last_entry-last-requires
last_entry-last-requires c = run_ended c.loop-left.invariant.0 c.loop-left-test.true

pub overflow_add-key : goal.overflow_add-key
overflow_add-key c =
    let v = turn_valid c.loop-left.invariant.0 c.loop-left-test.true _ c.last_entry-last.ensures in
    let w = turn_within c.loop-left.invariant.0 c.loop-left-test.true _ c.last_entry-last.ensures in
    let step = keys_height c.args.m c.last_entry-last.result.key v in
    let small = five_le 10 c.requires.0 in
    record { fits = omega arith }

pub returns-then-limit-key : goal.returns-then-limit-key
returns-then-limit-key c =
    let i = c.loop-left.invariant in
    let v = turn_valid i.0 c.loop-left-test.true _ c.last_entry-last.ensures in
    let step = keys_height c.args.m c.last_entry-last.result.key v in
    descends_not i.0 c.loop-left-test.true _ c.last_entry-last.ensures _ (omega arith) ∙ i.1

pub loop-left-smaller : goal.loop-left-smaller
loop-left-smaller c = turn_less c.loop-left.invariant.0 c.loop-left-test.true _ c.last_entry-last.ensures

pub loop-left-preserved : goal.loop-left-preserved
loop-left-preserved c =
    let i = c.loop-left.invariant in
    let t = c.loop-left-test.true in
    let f = c.last_entry-last.ensures in
    let step = keys_height c.args.m c.last_entry-last.result.key (turn_valid i.0 t _ f) in
    (turn_rest i.0 t _ f, descends_on i.0 t _ f _ (omega arith) ∙ i.1)

pub returns : goal.returns
returns c = descends_over _ _ _ _ _ _ c.loop-left-test.false ∙ c.loop-left.invariant.1

-- The run is refused already or passes over all rules, the rule is bad, a waiver is wrong, or the rule is served.
use Prim.Native.Nat.{◌+◌}
use mathlib.Core.Path.{sym, ap, ◌∙◌}
use Rattle.finding_runs.specs.Run.{refusing, faulty_from, progress_of}
use Rattle.finding_runs.proofs.StepCases.{step_stopped, step_rests, step_bad, step_faulty, step_good}
use Rattle.finding_runs.proofs.StepWrong.{wrong_is, gatherable}
use Rattle.finding_runs.proofs.one_rule.own_step.Goals as goal

pub returns-then-state-ne0 : goal.returns-then-state-ne0
returns-then-state-ne0 c = sym (step_stopped c.args.keys.now c.args.bits.now c.args.waiver_ids.now c.args.waiver_keys.now c.args.rule (progress_of c.args.state c.args.found_ids.now c.args.found_keys.now) c.if-state-ne0.true)

pub returns-then-state-eq-RESTING : goal.returns-then-state-eq-RESTING
returns-then-state-eq-RESTING c = sym (step_rests c.args.keys.now c.args.bits.now c.args.waiver_ids.now c.args.waiver_keys.now c.args.rule (progress_of c.args.state c.args.found_ids.now c.args.found_keys.now) c.if-state-ne0.false c.if-state-eq-RESTING.true)

pub returns-then-not-may_come : goal.returns-then-not-may_come
returns-then-not-may_come c =
    ap (λ st. progress_of st c.args.found_ids.now c.args.found_keys.now) (c.refused.ensures ∙ ap (λ k. refusing k c.args.state) c.into.ensures)
    ∙ sym (step_bad c.args.keys.now c.args.bits.now c.args.waiver_ids.now c.args.waiver_keys.now c.args.rule (progress_of c.args.state c.args.found_ids.now c.args.found_keys.now) c.if-state-ne0.false c.if-state-eq-RESTING.false (sym c.may_come.ensures ∙ c.if-not-may_come.true))

pub returns-then-waiver_is_wrong : goal.returns-then-waiver_is_wrong
returns-then-waiver_is_wrong c =
    let fine = c.requires.fine c.if-state-ne0.false in
    ap (λ st. progress_of st c.args.found_ids.now c.args.found_keys.now) (c.faulty_from.ensures ∙ ap (λ n. faulty_from (n + 1) c.args.state) c.from.ensures)
    ∙ sym
    (step_faulty c.args.keys.now c.args.bits.now c.args.waiver_ids.now c.args.waiver_keys.now c.args.rule (progress_of c.args.state c.args.found_ids.now c.args.found_keys.now) c.if-state-ne0.false c.if-state-eq-RESTING.false (sym c.may_come.ensures ∙ c.if-not-may_come.false)
    (sym (c.waiver_is_wrong.ensures ∙ wrong_is c.args.keys.now c.args.bits.now c.args.waiver_ids.now c.args.waiver_keys.now c.args.rule (progress_of c.args.state c.args.found_ids.now c.args.found_keys.now) fine) ∙ c.if-waiver_is_wrong.true))

pub gather-requires : goal.gather-requires
gather-requires c =
    let fine = c.requires.fine c.if-state-ne0.false in
    gatherable c.args.keys.now c.args.bits.now c.args.waiver_ids.now c.args.waiver_keys.now c.args.rule (progress_of c.args.state c.args.found_ids.now c.args.found_keys.now) fine (sym c.may_come.ensures ∙ c.if-not-may_come.false)
    (sym (c.waiver_is_wrong.ensures ∙ wrong_is c.args.keys.now c.args.bits.now c.args.waiver_ids.now c.args.waiver_keys.now c.args.rule (progress_of c.args.state c.args.found_ids.now c.args.found_keys.now) fine) ∙ c.if-waiver_is_wrong.false)

pub returns : goal.returns
returns c =
    let fine = c.requires.fine c.if-state-ne0.false in
    c.gather.ensures
    ∙ sym
    (step_good c.args.keys.now c.args.bits.now c.args.waiver_ids.now c.args.waiver_keys.now c.args.rule (progress_of c.args.state c.args.found_ids.now c.args.found_keys.now) c.if-state-ne0.false c.if-state-eq-RESTING.false (sym c.may_come.ensures ∙ c.if-not-may_come.false)
    (sym (c.waiver_is_wrong.ensures ∙ wrong_is c.args.keys.now c.args.bits.now c.args.waiver_ids.now c.args.waiver_keys.now c.args.rule (progress_of c.args.state c.args.found_ids.now c.args.found_keys.now) fine) ∙ c.if-waiver_is_wrong.false))

-- Each way out is a case of the definition.
use mathlib.Core.Path.{sym, ap, ◌∙◌}
use Rattle.finding_runs.specs.Run.{refusing}
use Rattle.finding_runs.proofs.NextCases.{next_stopped, next_faulty, next_left, next_counts, next_rests, next_full, next_writes}
use Rattle.finding_runs.proofs.runs.begin_next.Goals as goal

pub returns-then-state-ne0 : goal.returns-then-state-ne0
returns-then-state-ne0 c = sym (next_stopped _ c.if-state-ne0.true)

pub returns-then-state : goal.returns-then-state
returns-then-state c = c.refused.ensures ∙ ap (λ k. refusing k c.args.state) c.into.ensures ∙ sym (next_faulty _ c.if-state-ne0.false c.if-state.true)

pub returns-then-state-2 : goal.returns-then-state-2
returns-then-state-2 c =
    c.refused-then-state-2.ensures
    ∙ ap (λ k. refusing k c.args.state) c.into-then-state-2.ensures
    ∙ sym (next_left _ c.if-state-ne0.false c.if-state.false c.if-state-2.true)

pub returns-then-room-state : goal.returns-then-room-state
returns-then-room-state c =
    c.restarted.ensures ∙ sym (next_counts _ c.if-state-ne0.false c.if-state.false c.if-state-2.false c.if-state-eq-BOUNDING.true c.if-room-state.true)

pub returns-then-state-eq-BOUNDING : goal.returns-then-state-eq-BOUNDING
returns-then-state-eq-BOUNDING c =
    c.rested.ensures ∙ sym (next_rests _ c.if-state-ne0.false c.if-state.false c.if-state-2.false c.if-state-eq-BOUNDING.true c.if-room-state.false)

pub returns-then-room-state-2 : goal.returns-then-room-state-2
returns-then-room-state-2 c =
    c.refused-then-room-state-2.ensures
    ∙ ap (λ k. refusing k c.args.state) c.into-then-room-state-2.ensures
    ∙ sym (next_full _ c.if-state-ne0.false c.if-state.false c.if-state-2.false c.if-state-eq-BOUNDING.false c.if-room-state-2.true)

pub returns : goal.returns
returns c =
    c.restarted-2.ensures
    ∙ sym (next_writes _ c.if-state-ne0.false c.if-state.false c.if-state-2.false c.if-state-eq-BOUNDING.false c.if-room-state-2.false)

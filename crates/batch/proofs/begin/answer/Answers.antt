-- Each way out is a case of the definition.
use mathlib.Core.Path.{sym, ◌∙◌}
use Rattle.batch.proofs.Beginning.{answer_done, answer_full, answer_refused}
use Rattle.batch.proofs.begin.answer.Goals as goal

pub returns-then-refusal-eq0 : goal.returns-then-refusal-eq0
returns-then-refusal-eq0 c =
    let is = c.from-refusal.ensures in
    (λ i. record { refusal = is i; count = c.args.state.questions }) ∙ answer_done c.args.state (sym is ∙ c.if-refusal-eq0.true)

pub returns-then-refusal-full : goal.returns-then-refusal-full
returns-then-refusal-full c =
    let is = c.from-refusal.ensures in
    (λ i. record { refusal = is i; count = c.args.state.questions })
    ∙ answer_full c.args.state (λ e. c.if-refusal-eq0.false (is ∙ e)) (sym is ∙ c.if-refusal-full.true ∙ c.into-full.ensures)

pub returns : goal.returns
returns c =
    let is = c.from-refusal.ensures in
    (λ i. record { refusal = is i; count = 0 })
    ∙ answer_refused c.args.state (λ e. c.if-refusal-eq0.false (is ∙ e)) (λ e. c.if-refusal-full.false (is ∙ e ∙ sym c.into-full.ensures))

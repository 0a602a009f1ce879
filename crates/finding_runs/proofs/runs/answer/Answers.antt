-- Each way out is a case of the definition.
use mathlib.Core.Path.{sym, ◌∙◌}
use Rattle.finding_runs.proofs.NextCases.{answer_done, answer_full, answer_refused}
use Rattle.finding_runs.proofs.runs.answer.Goals as goal

pub returns-then-refusal-eq0 : goal.returns-then-refusal-eq0
returns-then-refusal-eq0 c = sym (answer_done _ c.if-refusal-eq0.true)

pub returns-then-refusal-full : goal.returns-then-refusal-full
returns-then-refusal-full c = sym (answer_full _ (c.if-refusal-full.true ∙ c.into-full.ensures))

pub returns : goal.returns
returns c = sym (answer_refused _ c.if-refusal-eq0.false (λ e. c.if-refusal-full.false (e ∙ sym c.into-full.ensures)))

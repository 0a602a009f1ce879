-- The tests are those of the definition, the id first.
use mathlib.Core.Path.{◌∙◌}
use native.Mathlib.Omega.{arith}
use Rattle.finding_runs.proofs.StepTests.{may_feature, may_window}
use Rattle.finding_runs.proofs.one_rule.may_come.Goals as goal

pub returns-then-state-rule : goal.returns-then-state-rule
returns-then-state-rule c = may_feature c.args.rule c.args.state c.if-state-rule.true

pub returns : goal.returns
returns c = c.is_window.ensures ∙ may_window c.args.rule c.args.state (omega arith) c.if-state-rule.false

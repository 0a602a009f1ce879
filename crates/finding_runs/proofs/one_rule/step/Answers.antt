-- The parts that are lent are the asking office's rows. Rests on TableRuns.
use mathlib.Core.Path.{◌∙◌}
use Rattle.finding_runs.proofs.TableRuns.{step_cut}
use Rattle.finding_runs.proofs.one_rule.step.Goals as goal

pub returns : goal.returns
returns c = c.own_step.ensures ∙ step_cut _ _ _ _ _ _

-- The state's fields are given, and its refusal is the table's.
use mathlib.Core.Path.{◌∙◌}
use Rattle.batch.proofs.Beginning.{begun}
use Rattle.batch.proofs.begin.begin.Goals as goal

pub returns-in-Ok : goal.returns-in-Ok
returns-in-Ok c = begun _ _ _ _ _ _ _ _ _ c.in-Ok.ensures.told

pub returns-in-Err : goal.returns-in-Err
returns-in-Err c = begun _ _ _ _ _ _ _ _ _ (c.from.ensures ∙ c.in-Err.ensures.told)

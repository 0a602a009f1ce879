-- 21 comes before 1 and 4.
use mathlib.Core.Path.{sym, ◌∙◌}
use borrow.Author.Tests.{lt-ltb, le-ltb}
use Rattle.finding_runs.proofs.Beginning.{begin_other, begin_known}
use Rattle.finding_runs.proofs.runs.begin_refusal.Goals as goal

pub returns-then-office-gt1 : goal.returns-then-office-gt1
returns-then-office-gt1 c = c.into.ensures ∙ sym (begin_other _ _ _ _ _ _ (lt-ltb 1 _ c.if-office-gt1.true))

pub returns-in-Ok : goal.returns-in-Ok
returns-in-Ok c = c.in-Ok.ensures.told ∙ sym (begin_known _ _ _ _ _ _ (le-ltb 1 _ c.if-office-gt1.false))

pub returns-in-Err : goal.returns-in-Err
returns-in-Err c = c.into-in-Err.ensures ∙ c.in-Err.ensures.told ∙ sym (begin_known _ _ _ _ _ _ (le-ltb 1 _ c.if-office-gt1.false))

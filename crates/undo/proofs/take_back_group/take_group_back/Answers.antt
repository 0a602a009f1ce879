-- The last group in force goes back, and its first place tells what is in force then.
use Rattle.std.proofs.lemmas.Result.{err_from_is_err_and}
use Rattle.undo.proofs.TakingBackGroup.{take-kept, take-group, group_taken, group_left}
use Rattle.undo.proofs.take_back_group.take_group_back.Goals as goal

pub last_run-run-requires : goal.last_run-run-requires
last_run-run-requires c = take-group c.requires.0 c.requires.1

pub apply-requires : goal.apply-requires
apply-requires c = take-kept c.requires.0

pub returns-in_err-after : goal.returns-in_err-after
returns-in_err-after c =
    let p = err_from_is_err_and c.from_residual.result c.from_residual.ensures.1 in
    rw (p.1, p.2) (group_left c.requires.0 c.last_run-run.ensures c.in_err-after.field-0.0 c.in_err-after.ensures)

pub returns : goal.returns
returns c = group_taken c.requires.0 c.last_run-run.ensures c.in_ok-after.ensures

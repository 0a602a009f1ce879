-- The group is redone from the part of the log that is lent, and is in force with what closes it.
use native.Mathlib.Omega.{arith}
use Rattle.std.proofs.lemmas.Result.{err_from_is_err_and}
use Rattle.edit.proofs.EditCallTables.{passed_log}
use Rattle.undo.proofs.RedoTable.{redo_sheet}
use Rattle.undo.proofs.RedoGroup.{redo_kept, past_within, redo_last, group_redone, group_full}
use Rattle.undo.proofs.redo_group.redo_group.Goals as goal

pub overflow_add-past : goal.overflow_add-past
overflow_add-past c =
    let whole = passed_log (redo_sheet c.requires.0) in
    omega (arith, past_within c.requires.0 c.requires.1 _ c.requires.2, whole.in_keys, c.well_formed)

pub offset_bounds-log_keys-in_force : goal.offset_bounds-log_keys-in_force
offset_bounds-log_keys-in_force c =
    let whole = passed_log (redo_sheet c.requires.0) in
    omega (arith, past_within c.requires.0 c.requires.1 _ c.requires.2, whole.in_keys, c.well_formed)

pub slice_bounds-redo_keys-end : goal.slice_bounds-redo_keys-end
slice_bounds-redo_keys-end c = (passed_log (redo_sheet c.requires.0)).in_keys

pub slice_bounds-redo_values-end : goal.slice_bounds-redo_values-end
slice_bounds-redo_values-end c = (passed_log (redo_sheet c.requires.0)).in_values

pub last_run-run-requires : goal.last_run-run-requires
last_run-run-requires c = redo_last c.requires.0 c.requires.1 _ c.requires.2

pub apply-requires : goal.apply-requires
apply-requires c = redo_kept c.requires.0

pub returns-in_err-after : goal.returns-in_err-after
returns-in_err-after c =
    let p = err_from_is_err_and c.from_residual.result c.from_residual.ensures.1 in
    rw (p.1, p.2) (group_full c.requires.0 c.requires.1 _ c.requires.2 c.last_run-run.ensures c.in_err-after.field-0.0 c.in_err-after.ensures)

pub overflow_add-now : goal.overflow_add-now
overflow_add-now c =
    let whole = passed_log (redo_sheet c.requires.0) in
    omega (arith, past_within c.requires.0 c.requires.1 _ c.requires.2, whole.in_keys, c.well_formed)

pub returns : goal.returns
returns c = group_redone c.requires.0 c.requires.1 _ c.requires.2 c.last_run-run.ensures c.in_ok-after.ensures

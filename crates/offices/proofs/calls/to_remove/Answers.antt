-- The row is refused by the first four, or as one that is not there; or it stands at its place.
use mathlib.Core.Path.{sym, ap, ◌∙◌}
use native.Mathlib.Omega.{arith}
use Rattle.std.proofs.lemmas.Result.{err_from_is_err_and}
use Rattle.definitions.specs.Offices.{waiver_of}
use Rattle.offices.specs.Place.{row_found}
use Rattle.offices.proofs.Narrow.{narrowed_rows}
use Rattle.offices.proofs.Decided.{decided_refused, decided_done, early_removing, early_passed, found_there, found_absent, remove_absent, remove_done}
use Rattle.offices.proofs.calls.to_remove.Goals as goal

pub returns-in_err-table : goal.returns-in_err-table
returns-in_err-table c =
    let p = err_from_is_err_and c.from_residual.result c.from_residual.ensures.1 in
    rw (p.1, p.2) (early_removing _ _ _ _ _ _ _ _ _ _ c.in_err-table.ensures.told)

pub returns-in-Ok : goal.returns-in-Ok
returns-in-Ok c =
    let a = c.args in
    let passed = early_passed a.m a.row.office a.offices.now a.ids.now a.waived.now a.rows a.row.id a.row.key (sym c.in_ok-table.ensures.told) in
    let there = found_there _ _ _ _ _ _ _ _ passed _
    (c.in-Ok.ensures ∙ ap (row_found (waiver_of a.row.office a.row.id a.row.key)) (narrowed_rows _ _ _ _ _ _ _ c.in_ok-table.ensures.narrowed)) in
    ap (λ i. record { refusal = 0; count = i }) there.1 ∙ decided_done _ _ (remove_done _ _ _ _ _ _ _ _ passed there.0)

pub returns-in-Err : goal.returns-in-Err
returns-in-Err c =
    let a = c.args in
    let passed = early_passed a.m a.row.office a.offices.now a.ids.now a.waived.now a.rows a.row.id a.row.key (sym c.in_ok-table.ensures.told) in
    let absent = found_absent _ _ _ _ _ _ _ _ passed _
    (c.in-Err.ensures ∙ ap (row_found (waiver_of a.row.office a.row.id a.row.key)) (narrowed_rows _ _ _ _ _ _ _ c.in_ok-table.ensures.narrowed)) in
    decided_refused _ _ 22 (remove_absent _ _ _ _ _ _ _ _ passed absent.0) (λ e. omega arith) (λ e. omega arith)

-- The row is refused by the first four, as one that is there, or for want of room; or it has its place.
use mathlib.Core.Path.{sym, ap, ◌∙◌}
use native.Mathlib.Omega.{arith}
use Rattle.std.proofs.lemmas.Result.{err_from_is_err_and}
use Rattle.definitions.specs.Offices.{waiver_of}
use Rattle.offices.specs.Place.{row_found, office_times}
use Rattle.offices.proofs.Narrow.{narrowed_rows}
use Rattle.offices.proofs.Counted.{times_share}
use Rattle.offices.proofs.Decided.{decided_refused, decided_full, decided_done, early_adding, early_passed, holds, found_there, found_absent, add_there, add_full, add_done}
use Rattle.offices.proofs.calls.to_add.Goals as goal

pub returns-in_err-table : goal.returns-in_err-table
returns-in_err-table c =
    let p = err_from_is_err_and c.from_residual.result c.from_residual.ensures.1 in
    rw (p.1, p.2) (early_adding _ _ _ _ _ _ _ _ _ _ c.in_err-table.ensures.told)

pub returns-in_default : goal.returns-in_default
returns-in_default c =
    let a = c.args in
    let passed = early_passed a.m a.row.office a.offices.now a.ids.now a.waived.now a.rows a.row.id a.row.key (sym c.in_ok-table.ensures.told) in
    let there = found_there _ _ _ _ _ _ _ _ passed _
    (c.in_default.ensures ∙ ap (row_found (waiver_of a.row.office a.row.id a.row.key)) (narrowed_rows _ _ _ _ _ _ _ c.in_ok-table.ensures.narrowed)) in
    decided_refused _ _ 22 (add_there _ _ _ _ _ _ _ _ passed there.0) (λ e. omega arith) (λ e. omega arith)

pub returns-then-count_of-ge-LIMIT : goal.returns-then-count_of-ge-LIMIT
returns-then-count_of-ge-LIMIT c =
    let a = c.args in
    let passed = early_passed a.m a.row.office a.offices.now a.ids.now a.waived.now a.rows a.row.id a.row.key (sym c.in_ok-table.ensures.told) in
    let absent = found_absent _ _ _ _ _ _ _ _ passed _
    (c.in-Err.ensures ∙ ap (row_found (waiver_of a.row.office a.row.id a.row.key)) (narrowed_rows _ _ _ _ _ _ _ c.in_ok-table.ensures.narrowed)) in
    let share = c.count_of.ensures ∙ ap (office_times a.row.office) c.in_ok-table.ensures.narrowed.narrow_offices ∙ times_share _ _ _ _ _ (holds _ _ _ _ _ _ _ _ passed) in
    let full = c.if-count_of-ge-LIMIT.true in
    decided_full _ _ (add_full _ _ _ _ _ _ _ _ passed absent.0 (omega arith))

pub returns : goal.returns
returns c =
    let a = c.args in
    let passed = early_passed a.m a.row.office a.offices.now a.ids.now a.waived.now a.rows a.row.id a.row.key (sym c.in_ok-table.ensures.told) in
    let absent = found_absent _ _ _ _ _ _ _ _ passed _
    (c.in-Err.ensures ∙ ap (row_found (waiver_of a.row.office a.row.id a.row.key)) (narrowed_rows _ _ _ _ _ _ _ c.in_ok-table.ensures.narrowed)) in
    let share = c.count_of.ensures ∙ ap (office_times a.row.office) c.in_ok-table.ensures.narrowed.narrow_offices ∙ times_share _ _ _ _ _ (holds _ _ _ _ _ _ _ _ passed) in
    let few = c.if-count_of-ge-LIMIT.false in
    ap (λ i. record { refusal = 0; count = i }) absent.1 ∙ decided_done _ _ (add_done _ _ _ _ _ _ _ _ passed absent.0 (omega arith))

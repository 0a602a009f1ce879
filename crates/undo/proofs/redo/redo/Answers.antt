-- The refusals up to 20 leave all as it is; past them the next step is redone.
use mathlib.Core.Path.{refl, sym}
use native.Mathlib.Omega.{arith}
use borrow.Author.Tests.{eq-eqb}
use Rattle.std.proofs.lemmas.Result.{err_from_is_err_and}
use Rattle.definitions.proofs.Refused.{refusal_some}
use Rattle.laws.proofs.First.{this}
use Rattle.laws.proofs.Edits.{own_refuses, edit_refused}
use Rattle.edit.proofs.EditCallTables.{edit_early, first_passed, passed_log}
use Rattle.undo.proofs.redo.redo.Goals as goal

pub returns-in_err-accept_sheet : goal.returns-in_err-accept_sheet
returns-in_err-accept_sheet c =
    let p = err_from_is_err_and c.from_residual.result c.from_residual.ensures.1 in
    let some = refusal_some c.in_err-accept_sheet.field-0.0 in
    rw (p.1, p.2) (edit_refused _ _ (edit_early _ _ c.in_err-accept_sheet.ensures.told some) some)

pub returns-then-in_force-used : goal.returns-then-in_force-used
returns-then-in_force-used c =
    edit_refused _ 20 (own_refuses _ (first_passed 0 c.in_ok-accept_sheet.ensures.told refl) (this (eq-eqb _ _ c.if-in_force-used.true) refl)) (λ e. omega arith)

pub redo_step-requires : goal.redo_step-requires
redo_step-requires c =
    let within = (passed_log (first_passed 0 c.in_ok-accept_sheet.ensures.told refl)).within in
    record { passed = sym c.in_ok-accept_sheet.ensures.told; some = let h = c.if-in_force-used.false in omega arith }

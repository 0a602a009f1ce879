-- The refusals up to 11 leave all as it is; past them the last step is taken back.
use mathlib.Core.Path.{refl}
use native.Mathlib.Omega.{arith}
use borrow.Author.Tests.{eq-eqb}
use Rattle.std.proofs.lemmas.Result.{err_from_is_err_and}
use Rattle.definitions.proofs.Refused.{refusal_some}
use Rattle.laws.proofs.First.{this}
use Rattle.laws.proofs.Edits.{own_refuses, edit_refused}
use Rattle.edit.proofs.EditCallTables.{edit_early, first_passed}
use Rattle.undo.proofs.take_back.take_back.Goals as goal

pub returns-in_err-accept_sheet : goal.returns-in_err-accept_sheet
returns-in_err-accept_sheet c =
    let p = err_from_is_err_and c.from_residual.result c.from_residual.ensures.1 in
    let some = refusal_some c.in_err-accept_sheet.field-0.0 in
    rw (p.1, p.2) (edit_refused _ _ (edit_early _ _ c.in_err-accept_sheet.ensures.told some) some)

pub returns-then-in_force-eq0 : goal.returns-then-in_force-eq0
returns-then-in_force-eq0 c =
    edit_refused _ 11 (own_refuses _ (first_passed 0 c.in_ok-accept_sheet.ensures.told refl) (this (eq-eqb _ 0 c.if-in_force-eq0.true) refl)) (λ e. omega arith)

-- Past the first three rows of the table the log decides.
use mathlib.Core.Path.{refl, sym, ◌∙◌, ap}
use mathlib.Core.Bool.{not}
use Rattle.std.proofs.lemmas.Result.{err_from_is_err_and}
use Rattle.definitions.proofs.Refused.{refusal_some}
use Rattle.laws.proofs.First.{this, later}
use Rattle.list.proofs.Tests.{good_settings}
use Rattle.summary.proofs.SummaryFirst.{refused_summary, summary_passed}
use Rattle.edit.specs.EditCallChecks.{sheet_refusal}
use Rattle.edit.proofs.EditCallTables.{sheet_told, sheet_clear}
use Rattle.edit.proofs.decision.accept_sheet.Goals as goal

pub returns-in_err-list-clause-told : goal.returns-in_err-list-clause-told
unfolding sheet_refusal
returns-in_err-list-clause-told c =
    let p = err_from_is_err_and c.from_residual.result c.from_residual.ensures.1 in
    rw (p.1, p.2) (refused_summary _ _ _ _ _ _ _ _ c.in_err-list.ensures.told (refusal_some c.in_err-list.field-0.0))

pub is_log-requires : goal.is_log-requires
is_log-requires c =
    let p = summary_passed _ _ _ _ _ _ 0 c.in_ok-list.ensures.told refl in
    let g = good_settings _ _ p.settings in
    (g.deep, g.few)

pub returns-then-not-is_log-clause-told : goal.returns-then-not-is_log-clause-told
returns-then-not-is_log-clause-told c =
    let p = summary_passed _ _ _ _ _ _ 0 c.in_ok-list.ensures.told refl in
    sheet_told _ (later p.settings (later p.listed (later p.summed (this (sym c.is_log.ensures ∙ ap not c.if-not-is_log.true) refl))))

pub returns-clause-told : goal.returns-clause-told
returns-clause-told c =
    let p = summary_passed _ _ _ _ _ _ 0 c.in_ok-list.ensures.told refl in
    sheet_clear _ (record { settings = p.settings; listed = p.listed; summed = p.summed; logged = sym c.is_log.ensures ∙ ap not c.if-not-is_log.false })

-- `calls::accept_window` meets its contract: past the first two rows of the table the window decides.
use mathlib.Core.Path.{refl, sym, ap, ◌∙◌}
use mathlib.Core.Bool.{not}
use Rattle.std.proofs.lemmas.Result.{err_from_is_err_and}
use Rattle.definitions.proofs.Refused.{refusal_some}
use Rattle.definitions.specs.Calls.Report.{report_refusal}
use Rattle.laws.proofs.First.{this, holds_first, none_first}
use Rattle.list.proofs.FirstRefusal.{refused_first, passed_first}
use Rattle.window.proofs.calls.accept_window.Goals as goal

pub returns-in_err-list-clause-told : goal.returns-in_err-list-clause-told
unfolding report_refusal
returns-in_err-list-clause-told c =
    let p = err_from_is_err_and c.from_residual.result c.from_residual.ensures.1 in
    rw (p.1, p.2) (refused_first _ _ _ _ _ _ _ c.in_err-list.ensures.told (refusal_some _))

pub returns-then-not-is_window-clause-told : goal.returns-then-not-is_window-clause-told
unfolding report_refusal
returns-then-not-is_window-clause-told c =
    sym (passed_first _ _ _ _ _ _ _ c.in_ok-list.ensures.told refl ∙ holds_first (this (ap not (sym c.is_window.ensures ∙ c.if-not-is_window.true)) refl))

pub returns-clause-told : goal.returns-clause-told
unfolding report_refusal
returns-clause-told c =
    sym (passed_first _ _ _ _ _ _ _ c.in_ok-list.ensures.told refl ∙ none_first _ (ap not (sym c.is_window.ensures ∙ c.if-not-is_window.false), tt))

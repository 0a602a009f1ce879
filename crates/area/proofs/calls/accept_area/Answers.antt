-- `calls::accept_area` meets its contract: past the first three rows of the table its tests are the other rows, in the same order.
use mathlib.Core.Path.{refl, sym, ◌∙◌, ap}
use mathlib.Core.Bool.{not}
use borrow.Author.Tests.{le-leb, lt-leb}
use Rattle.std.proofs.lemmas.Result.{err_from_is_err_and}
use Rattle.definitions.specs.Calls.Area.{area_refusal}
use Rattle.definitions.proofs.Refused.{refusal_some}
use Rattle.laws.proofs.First.{this, later, holds_first, none_first}
use Rattle.summary.proofs.SummaryFirst.{refused_summary, passed_summary}
use Rattle.area.proofs.calls.accept_area.Goals as goal

pub returns-in_err-list-clause-told : goal.returns-in_err-list-clause-told
unfolding area_refusal
returns-in_err-list-clause-told c =
    let p = err_from_is_err_and c.from_residual.result c.from_residual.ensures.1 in
    rw (p.1, p.2) (refused_summary _ _ _ _ _ _ _ _ c.in_err-list.ensures.told (refusal_some _))

pub returns-then-not-is_window-clause-told : goal.returns-then-not-is_window-clause-told
unfolding area_refusal
returns-then-not-is_window-clause-told c =
    sym (passed_summary _ _ _ _ _ _ _ _ c.in_ok-list.ensures.told refl ∙ holds_first (this (ap not (sym c.is_window.ensures ∙ c.if-not-is_window.true)) refl))

pub returns-then-s-feature-clause-told : goal.returns-then-s-feature-clause-told
unfolding area_refusal
returns-then-s-feature-clause-told c =
    sym
    (passed_summary _ _ _ _ _ _ _ _ c.in_ok-list.ensures.told refl
    ∙ holds_first (later (ap not (sym c.is_window.ensures ∙ c.if-not-is_window.false)) (this (le-leb _ _ c.if-s-feature.true) refl)))

pub returns-clause-told : goal.returns-clause-told
unfolding area_refusal
returns-clause-told c =
    sym
    (passed_summary _ _ _ _ _ _ _ _ c.in_ok-list.ensures.told refl
    ∙ none_first _ (ap not (sym c.is_window.ensures ∙ c.if-not-is_window.false), (lt-leb _ _ c.if-s-feature.false, tt)))

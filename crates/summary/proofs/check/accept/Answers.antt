-- Past the first two rows of the tables the summary decides.
use mathlib.Core.Path.{refl, ◌∙◌, ap₂}
use mathlib.Core.Bool.{not}
use native.Mathlib.Omega.{arith}
use Rattle.std.proofs.lemmas.Result.{err_from_is_err_and}
use Rattle.definitions.specs.Area.{no_summary}
use Rattle.definitions.proofs.Refused.{refusal_some}
use Rattle.list.proofs.FirstRefusal.{list_passed}
use Rattle.list.proofs.Taken.{taken_picture}
use Rattle.summary.proofs.SummaryFirst.{summary_refused, summary_good, summary_wrong}
use Rattle.summary.proofs.check.accept.Goals as goal

pub returns-in_err-list-clause-told : goal.returns-in_err-list-clause-told
returns-in_err-list-clause-told c =
    let p = err_from_is_err_and c.from_residual.result c.from_residual.ensures.1 in
    rw (p.1, p.2) (summary_refused _ _ _ _ _ _ _ c.in_err-list.ensures.told (refusal_some c.in_err-list.field-0.0))

pub is_summary-requires : goal.is_summary-requires
is_summary-requires c = let p = list_passed _ _ _ _ _ 0 c.in_ok-list.ensures.told refl in omega (arith, p.settings.few)

pub returns-then-not-is_summary-clause-told : goal.returns-then-not-is_summary-clause-told
returns-then-not-is_summary-clause-told c =
    let t = c.in_ok-list.ensures.list in
    summary_wrong _ _ _ _ _ _ 0 c.in_ok-list.ensures.told refl c.is_summary.result
    (c.is_summary.ensures ∙ ap₂ (λ m p. not (no_summary m c.args.s p c.args.summary.now)) t.map (taken_picture t))
    c.if-not-is_summary.true

pub returns-clause-told : goal.returns-clause-told
returns-clause-told c =
    let t = c.in_ok-list.ensures.list in
    summary_good _ _ _ _ _ _ 0 c.in_ok-list.ensures.told refl c.is_summary.result
    (c.is_summary.ensures ∙ ap₂ (λ m p. not (no_summary m c.args.s p c.args.summary.now)) t.map (taken_picture t))
    c.if-not-is_summary.false

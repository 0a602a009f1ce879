-- A refused call writes nothing, and an accepted one fills the summary.
use mathlib.Core.Path.{refl, sym, ◌∙◌, ap, ap₂}
use native.Mathlib.Omega.{arith}
use borrow.Author.Tests.{eqb-true}
use Rattle.std.proofs.lemmas.Result.{err_from_is_err_and}
use Rattle.definitions.specs.Area.{summary_length, summary_of}
use Rattle.list.proofs.FirstRefusal.{list_passed}
use Rattle.list.proofs.Taken.{taken_picture}
use Rattle.summary.proofs.FillAnswers.{fill_refused, fill_long, fill_done, fill_wrote}
use Rattle.summary.proofs.calls.fill_summary.Goals as goal

pub returns-in_err-list-clause-value : goal.returns-in_err-list-clause-value
returns-in_err-list-clause-value c =
    let p = err_from_is_err_and c.from_residual.result c.from_residual.ensures.1 in
    rw (p.1, p.2) ((fill_refused _ _ _ _ _ c.args.summary.now c.in_err-list.field-0.0 c.in_err-list.ensures.told).0)

pub returns-in_err-list-clause-summary_after : goal.returns-in_err-list-clause-summary_after
returns-in_err-list-clause-summary_after c =
    (fill_refused _ _ _ _ _ c.args.summary.now c.in_err-list.field-0.0 c.in_err-list.ensures.told).1

pub returns-then-not-have_length-clause-value : goal.returns-then-not-have_length-clause-value
returns-then-not-have_length-clause-value c =
    (fill_long _ _ _ _ _ _ c.in_ok-list.ensures.told (sym c.have_length.ensures ∙ c.if-not-have_length.true)).0

pub returns-then-not-have_length-clause-summary_after : goal.returns-then-not-have_length-clause-summary_after
returns-then-not-have_length-clause-summary_after c =
    (fill_long _ _ _ _ _ _ c.in_ok-list.ensures.told (sym c.have_length.ensures ∙ c.if-not-have_length.true)).1

pub fill_counted-requires : goal.fill_counted-requires
fill_counted-requires c =
    let p = list_passed _ _ _ _ _ 0 c.in_ok-list.ensures.told refl in (
      omega (arith, p.settings.few),
      eqb-true _ _ (sym c.have_length.ensures ∙ c.if-not-have_length.false) ∙ ap (λ m. summary_length m c.args.s) (sym c.in_ok-list.ensures.list.map),
    )

pub returns-clause-value : goal.returns-clause-value
returns-clause-value c = fill_done _ _ _ _ _ _ c.in_ok-list.ensures.told (sym c.have_length.ensures ∙ c.if-not-have_length.false)

pub returns-clause-summary_after : goal.returns-clause-summary_after
returns-clause-summary_after c =
    let t = c.in_ok-list.ensures.list in
    fill_wrote _ _ _ _ _ _ c.in_ok-list.ensures.told (sym c.have_length.ensures ∙ c.if-not-have_length.false) _
    (c.fill_counted.ensures ∙ ap₂ (λ m p. summary_of m c.args.s p) t.map (taken_picture t))

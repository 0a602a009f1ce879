-- `calls::report` meets its contract: a refused call tells its number, and an accepted one the union that the walk gathered.
use mathlib.Core.Path.{sym, ap, ◌∙◌}
use Rattle.std.proofs.lemmas.Result.{err_from_is_err_and}
use Rattle.definitions.proofs.Refused.{refusal_some}
use Rattle.list.proofs.Taken.{taken_picture}
use Rattle.definitions.specs.Window.{report_in}
use Rattle.window.proofs.Tables.{report_passed}
use Rattle.window.proofs.Answers.{report_refused, report_found}
use Rattle.window.proofs.calls.report.Goals as goal

pub returns-in_err-list : goal.returns-in_err-list
returns-in_err-list c =
    let p = err_from_is_err_and c.from_residual.result c.from_residual.ensures.1 in
    rw (p.1, p.2) (report_refused _ _ _ _ _ _ _ c.in_err-list.ensures.told (refusal_some _))

pub report_in-requires : goal.report_in-requires
report_in-requires c = rw c.in_ok-list.ensures.list.map (report_passed _ _ _ _ _ _ (sym c.in_ok-list.ensures.told)).window

pub returns : goal.returns
returns c = report_found _ _ _ _ _ _ _ (sym c.in_ok-list.ensures.told) (c.report_in.ensures ∙ ap (λ p. report_in p c.args.window) (taken_picture c.in_ok-list.ensures.list))

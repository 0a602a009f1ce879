-- `calls::exist` meets its contract: a refused call tells its number, and an accepted one what the walk found.
use mathlib.Core.Path.{sym, ap, ◌∙◌}
use native.Mathlib.Omega.{arith}
use Rattle.std.proofs.lemmas.Result.{err_from_is_err_and}
use Rattle.definitions.proofs.Refused.{refusal_some}
use Rattle.list.proofs.Taken.{taken_picture}
use Rattle.definitions.specs.Window.{exist_in}
use Rattle.window.proofs.Tables.{exist_passed, exist_below}
use Rattle.window.proofs.Answers.{exist_refused, exist_found}
use Rattle.window.proofs.calls.exist.Goals as goal

pub returns-in_err-list : goal.returns-in_err-list
returns-in_err-list c =
    let p = err_from_is_err_and c.from_residual.result c.from_residual.ensures.1 in
    rw (p.1, p.2) (exist_refused _ _ _ _ _ _ _ _ c.in_err-list.ensures.told (refusal_some _))

pub exist_in-requires : goal.exist_in-requires
exist_in-requires c =
    let none = sym c.in_ok-list.ensures.told in
    let passed = exist_passed _ _ _ _ _ _ _ none in
    let low = exist_below _ _ _ _ _ _ _ none in
    (rw c.in_ok-list.ensures.list.map passed.window, omega (arith, low, passed.settings.few))

pub returns : goal.returns
returns c =
    let list = c.in_ok-list.ensures.list in
    exist_found _ _ _ _ _ _ _ _ (sym c.in_ok-list.ensures.told) (c.exist_in.ensures ∙ ap (λ p. exist_in p c.args.window c.args.feature) (taken_picture list))

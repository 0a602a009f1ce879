-- `calls::accept_feature` meets its contract: a refusal of the window stays, and then the feature decides.
use mathlib.Core.Path.{sym}
use Rattle.std.proofs.lemmas.Result.{err_from_is_err_and}
use Rattle.definitions.proofs.Refused.{refusal_some}
use Rattle.window.proofs.Tables.{exist_goes_on, exist_feature, exist_none}
use Rattle.window.proofs.calls.accept_feature.Goals as goal

pub returns-in_err-list-clause-told : goal.returns-in_err-list-clause-told
returns-in_err-list-clause-told c =
    let p = err_from_is_err_and c.from_residual.result c.from_residual.ensures.1 in
    rw (p.1, p.2) (exist_goes_on _ _ _ _ _ _ _ _ c.in_err-list.ensures.told (refusal_some _))

pub returns-then-s-feature-clause-told : goal.returns-then-s-feature-clause-told
returns-then-s-feature-clause-told c = exist_feature _ _ _ _ _ _ _ (sym c.in_ok-list.ensures.told) c.if-s-feature.true

pub returns-clause-told : goal.returns-clause-told
returns-clause-told c = exist_none _ _ _ _ _ _ _ (sym c.in_ok-list.ensures.told) c.if-s-feature.false

-- `calls::area` meets its contract: a refused call tells its number, and an accepted one what the walk counted.
use mathlib.Core.Path.{sym, ap, ap₂, ◌∙◌}
use native.Mathlib.Omega.{arith}
use Rattle.std.proofs.lemmas.Result.{err_from_is_err_and}
use Rattle.definitions.specs.Area.{area_in, summary_of}
use Rattle.definitions.proofs.Refused.{refusal_some}
use Rattle.list.proofs.Taken.{taken_picture}
use Rattle.area.proofs.AreaCall.{area_passed, area_refused, area_given}
use Rattle.area.proofs.calls.area.Goals as goal

pub returns-in_err-list : goal.returns-in_err-list
returns-in_err-list c =
    let p = err_from_is_err_and c.from_residual.result c.from_residual.ensures.1 in
    rw (p.1, p.2) (area_refused _ _ _ _ _ _ _ _ _ c.in_err-list.ensures.told (refusal_some _))

pub area_in-requires : goal.area_in-requires
area_in-requires c =
    let list = c.in_ok-list.ensures.list in
    let p = area_passed _ _ _ _ _ _ _ _ (sym c.in_ok-list.ensures.told) in
    record {
      asked = (omega (arith, p.settings.few), p.below, rw list.map p.window);
      summary_value = p.summary_right ∙ sym (ap₂ (λ m q. summary_of m c.args.s q) list.map (taken_picture list));
    }

pub returns : goal.returns
returns c =
    area_given _ _ _ _ _ _ _ _ _ (sym c.in_ok-list.ensures.told)
    (c.area_in.ensures ∙ ap (λ p. area_in p c.args.window c.args.feature) (taken_picture c.in_ok-list.ensures.list))

-- `zeros::only_at_end` meets its contract: a turn passes a zero, or leaves the digits before it to `none_in`.
use mathlib.Core.Path.{sym, ◌∙◌}
use Rattle.keys.proofs.LastDigit.{rest_below, valid_goes, valid_stops, valid_over}
use Rattle.keys.proofs.zeros.only_at_end.Goals as goal

pub returns-then-digit-ne0 : goal.returns-then-digit-ne0
returns-then-digit-ne0 c =
    let l = c.loop-left in
    c.none_in.ensures
    ∙ sym (l.invariant.1 ∙ valid_stops l.left l.rest c.loop-left-test.true l.invariant.0 c.if-digit-ne0.true)

pub loop-left-preserved : goal.loop-left-preserved
loop-left-preserved c =
    let l = c.loop-left in
    let some = c.loop-left-test.true in
    (rest_below l.left l.rest some l.invariant.0, l.invariant.1 ∙ valid_goes l.left l.rest some l.invariant.0 c.if-digit-ne0.false)

pub returns : goal.returns
returns c = let l = c.loop-left in sym (l.invariant.1 ∙ valid_over l.left l.rest c.loop-left-test.false l.invariant.0)

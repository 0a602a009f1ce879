-- `check::after_low` meets its contract: the step 5 is that of height 2, the step 1 that of height 1, and other steps below 25 are a pixel's. Rests on Turn,
-- Pixels and AfterNode.
use mathlib.Core.Path.{◌∙◌}
use native.Mathlib.Omega.{arith}
use Rattle.list.proofs.Pixels.{right_false, right_true}
use Rattle.list.proofs.AfterNode.{none_after, some_after}
use Rattle.list.proofs.Turn.{step_one, at_height, pixel}
use Rattle.list.proofs.check.after_low.Goals as goal
use Rattle.list.proofs.check.after_low.Goals.{else-step-eq1-via-then-step-eq1+else-four_pixels, else-step-eq1-via-else-step-eq1}

pub returns-then-step-eq5 : goal.returns-then-step-eq5
returns-then-step-eq5 c = rw c.if-step-eq5.true c.after_sixteen.ensures

pub returns-then-four_pixels : goal.returns-then-four_pixels
returns-then-four_pixels c =
    let a = c.args in
    let h = c.four_pixels.ensures in
    some_after _ (h.0 c.if-four_pixels.true) (omega arith)
    (at_height a.keys.now a.bits.now a.first a.key a.own 1 a.step _ (c.if-step-eq1.true ∙ step_one) (right_true _ _ _ c.if-four_pixels.true h.1))

pub returns-else-step-eq1 : goal.returns-else-step-eq1
returns-else-step-eq1 c =
    let a = c.args in
    none_after
    (elim c.else-step-eq1.branch [
      | else-step-eq1-via-then-step-eq1+else-four_pixels w ↦
          at_height a.keys.now a.bits.now a.first a.key a.own 1 a.step _ (w.if-step-eq1.true ∙ step_one) (right_false _ _ _ w.if-four_pixels.false w.four_pixels.ensures.1)
      | else-step-eq1-via-else-step-eq1 w ↦
          pixel a.keys.now a.bits.now a.first a.key a.own a.step c.requires.2 c.if-step-eq5.false w.if-step-eq1.false
    ])

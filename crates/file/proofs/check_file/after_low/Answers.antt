-- `check_file::after_low`: the step 25 is that of height 3, the step 5 that of height 2, the step 1 that of height 1, and other steps below 25 are a pixel's.
-- Rests on FileTurn and FileAfter.
use Rattle.std.proofs.Common.{arith, ◌∙◌, ◌+◌}
use Rattle.list.proofs.Pixels.{right_false, right_true}
use Rattle.list.proofs.Turn.{step_one}
use Rattle.file.proofs.FileTurn.{at_height_in, pixel_in}
use Rattle.file.proofs.FileAfter.{none_after_in, some_after_in, same_step}
use Rattle.file.proofs.check_file.after_low.Goals as goal

pub returns-in-25 : goal.returns-in-25
returns-in-25 c = same_step c.in-25.is c.after_sixty_four.ensures

pub returns-in-5 : goal.returns-in-5
returns-in-5 c = same_step c.in-5.is c.after_sixteen.ensures

pub returns-in-1 : goal.returns-in-1
returns-in-1 c =
    let a = c.args in
    let h = c.four_pixels.ensures in
    some_after_in _ (omega arith)
    (at_height_in a.width a.n a.file.now a.first a.key a.own a.step _ 1 (c.in-1.is ∙ step_one)
    (h.0 c.if-four_pixels.true, right_true c.four_pixels.result (a.first + 4) _ c.if-four_pixels.true h.1))

pub returns-in_default : goal.returns-in_default
returns-in_default c =
    let a = c.args in
    let h = c.four_pixels.ensures in
    none_after_in
    (at_height_in a.width a.n a.file.now a.first a.key a.own a.step _ 1 (c.in-1.is ∙ step_one)
    (omega arith, right_false c.four_pixels.result (a.first + 4) _ c.if-four_pixels.false h.1))

pub returns-in_default-2 : goal.returns-in_default-2
returns-in_default-2 c =
    let a = c.args in
    none_after_in (pixel_in a.width a.n a.file.now a.first a.key a.own a.step (omega arith) (λ e. omega arith) (λ e. omega arith))

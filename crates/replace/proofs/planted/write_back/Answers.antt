-- `planted::write_back` meets its contract: the records of so many levels are written.
use Rattle.std.proofs.Common.{arith}
use Rattle.replace.proofs.ExchangeBack.{back_begins, back_level, back_turns, back_ends, back_keys_size, back_bits_size}
use Rattle.replace.proofs.planted.write_back.Goals as goal

pub power_of_five-step-requires : goal.power_of_five-step-requires
power_of_five-step-requires c = omega (arith, c.requires.deep.most)

pub loop-done-init : goal.loop-done-init
loop-done-init c = back_begins _ _ _ _ _ _ _ _ c.power_of_five-step.ensures

pub overflow_mul-wide : goal.overflow_mul-wide
overflow_mul-wide c = let l = (back_level c.loop-done.invariant c.loop-done-test.true c.requires.deep c.requires.roomy) in omega (arith, l.most)

pub nonzero_div-parent : goal.nonzero_div-parent
nonzero_div-parent c = let l = (back_level c.loop-done.invariant c.loop-done-test.true c.requires.deep c.requires.roomy) in omega (arith, l.least)

pub overflow_mul-parent : goal.overflow_mul-parent
overflow_mul-parent c = let l = (back_level c.loop-done.invariant c.loop-done-test.true c.requires.deep c.requires.roomy) in omega (arith, l.parent_below)

pub quadrant_at-digit-requires : goal.quadrant_at-digit-requires
quadrant_at-digit-requires c = let l = (back_level c.loop-done.invariant c.loop-done-test.true c.requires.deep c.requires.roomy) in (c.requires.deep.least, l.least, l.most)

pub overflow_add-digit : goal.overflow_add-digit
overflow_add-digit c = let l = (back_level c.loop-done.invariant c.loop-done-test.true c.requires.deep c.requires.roomy) in let q = c.quadrant_at-digit.ensures _ l.power in omega (arith, q, l.digit_most)

pub overflow_sub-digit : goal.overflow_sub-digit
overflow_sub-digit c = let l = (back_level c.loop-done.invariant c.loop-done-test.true c.requires.deep c.requires.roomy) in let q = c.quadrant_at-digit.ensures _ l.power in omega (arith, q, l.digit_most)

pub write_leaves-place-requires : goal.write_leaves-place-requires
write_leaves-place-requires c =
    let l = (back_level c.loop-done.invariant c.loop-done-test.true c.requires.deep c.requires.roomy) in
    let q = c.quadrant_at-digit.ensures _ l.power in
    (omega (arith, q, l.in_keys), omega (arith, q, l.in-bits), omega (arith, q, l.digit_most), l.parent_below, l.most)

pub loop-done-preserved : goal.loop-done-preserved
loop-done-preserved c =
    let l = (back_level c.loop-done.invariant c.loop-done-test.true c.requires.deep c.requires.roomy) in
    back_turns c.loop-done.invariant c.loop-done-test.true _ _ _ _ l (c.quadrant_at-digit.ensures _ l.power) (c.write_leaves-place.ensures _ l.power)

pub shape_of-keys : goal.shape_of-keys
shape_of-keys c = back_keys_size c.loop-done.invariant

pub shape_of-bits : goal.shape_of-bits
shape_of-bits c = back_bits_size c.loop-done.invariant

pub returns : goal.returns
returns c = back_ends c.loop-done.invariant c.loop-done-test.false

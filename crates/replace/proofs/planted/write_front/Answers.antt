-- `planted::write_front` meets its contract: what is still to be written from here gives the same as all of it at the start.
use Rattle.std.proofs.Common.{◌*◌, ◌/◌, refl, ap, ◌-◌, ℕ, arith, length-set}
use Rattle.replace.proofs.ExchangeFront.{front_begins, front_level, front_turns, front_done, front_ends}
use Rattle.replace.proofs.planted.write_front.Goals as goal

pub overflow_add-low : goal.overflow_add-low
overflow_add-low c = omega (arith, c.requires.deep.most)

pub power_of_five-wide-requires : goal.power_of_five-wide-requires
power_of_five-wide-requires c = omega (arith, c.requires.deep.most)

pub loop-done-init : goal.loop-done-init
loop-done-init c = front_begins _ _ _ _ _ _ _ _ _ c.power_of_five-wide.ensures

pub nonzero_div-parent : goal.nonzero_div-parent
nonzero_div-parent c = let l = (front_level c.loop-done.invariant (omega arith) c.requires.deep c.requires.roomy) in omega (arith, l.least, l.wider)

pub overflow_mul-parent : goal.overflow_mul-parent
overflow_mul-parent c = let l = (front_level c.loop-done.invariant (omega arith) c.requires.deep c.requires.roomy) in omega (arith, l.parent_below)

pub quadrant_at-before-requires : goal.quadrant_at-before-requires
quadrant_at-before-requires c = let l = (front_level c.loop-done.invariant (omega arith) c.requires.deep c.requires.roomy) in (c.requires.deep.least, l.least, l.most)

pub overflow_sub-before : goal.overflow_sub-before
overflow_sub-before c = let l = (front_level c.loop-done.invariant (omega arith) c.requires.deep c.requires.roomy) in let q = c.quadrant_at-before.ensures _ l.power in omega (arith, q, l.digit_least)

pub offset_bounds-keys-place : goal.offset_bounds-keys-place
offset_bounds-keys-place c = let l = (front_level c.loop-done.invariant (omega arith) c.requires.deep c.requires.roomy) in omega (arith, l.in_keys, l.digit_least, c.loop-done.invariant.keys_size, c.well_formed)

pub bounds-keys-place : goal.bounds-keys-place
bounds-keys-place c = let l = (front_level c.loop-done.invariant (omega arith) c.requires.deep c.requires.roomy) in omega (arith, l.in_keys, l.digit_least)

pub offset_bounds-bits-place : goal.offset_bounds-bits-place
offset_bounds-bits-place c = let l = (front_level c.loop-done.invariant (omega arith) c.requires.deep c.requires.roomy) in omega (arith, l.in-bits, l.digit_least, c.loop-done.invariant.bits_size, c.well_formed)

pub bounds-bits-place : goal.bounds-bits-place
bounds-bits-place c = let l = (front_level c.loop-done.invariant (omega arith) c.requires.deep c.requires.roomy) in omega (arith, l.in-bits, l.digit_least)

pub overflow_add-place : goal.overflow_add-place
overflow_add-place c = let l = (front_level c.loop-done.invariant (omega arith) c.requires.deep c.requires.roomy) in omega (arith, l.in_keys, l.digit_least, c.loop-done.invariant.keys_size, c.well_formed)

pub write_leaves-place-requires : goal.write_leaves-place-requires
write_leaves-place-requires c =
    let l = (front_level c.loop-done.invariant (omega arith) c.requires.deep c.requires.roomy) in
    let q = c.quadrant_at-before.ensures _ l.power in
    let k = length-set c.loop-done.keys c.loop-done.place (c.args.key / c.loop-done.wide * c.loop-done.wide) in
    let b = length-set c.loop-done.bits c.loop-done.place c.args.v in
    (omega (arith, q, k, l.in_keys, l.digit_least), omega (arith, q, b, l.in-bits, l.digit_least), omega (arith, q, l.digit_least, l.digit_most), l.parent_below, l.most)

pub loop-done-preserved : goal.loop-done-preserved
loop-done-preserved c =
    let l = (front_level c.loop-done.invariant (omega arith) c.requires.deep c.requires.roomy) in
    front_done (front_turns c.loop-done.invariant (omega arith) _ _ _ _ l (ap (λ (n : ℕ). n - 1) (c.quadrant_at-before.ensures _ l.power)) (c.write_leaves-place.ensures _ l.power)) _ refl

pub shape_of-keys : goal.shape_of-keys
shape_of-keys c = c.loop-done.invariant.keys_size

pub shape_of-bits : goal.shape_of-bits
shape_of-bits c = c.loop-done.invariant.bits_size

pub returns : goal.returns
returns c = front_ends c.loop-done.invariant (omega (arith, c.loop-done-test.false))

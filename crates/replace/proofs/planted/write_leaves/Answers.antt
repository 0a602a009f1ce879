-- `planted::write_leaves` meets its contract: what is still to be written from here gives the same as all of it at the start.
use Rattle.std.proofs.Common.{◌+◌, arith}
use Rattle.replace.proofs.ExchangeLeaves.{plants_begin, plants_turn, plants_end, leaf_key_small}
use Rattle.replace.proofs.planted.write_leaves.Goals as goal

pub loop-done-init : goal.loop-done-init
loop-done-init c = plants_begin _ _ _ _ _ _ _ _

pub overflow_add-place : goal.overflow_add-place
overflow_add-place c = omega (arith, c.requires.0, c.well_formed)

pub overflow_add-keys : goal.overflow_add-keys
overflow_add-keys c = omega (arith, c.requires.2)

pub overflow_mul-keys : goal.overflow_mul-keys
overflow_mul-keys c = let s = leaf_key_small {digit = c.args.first + c.loop-done.done} (omega (arith, c.requires.2)) c.requires.4 in omega arith

pub overflow_add-keys-in-loop-done : goal.overflow_add-keys-in-loop-done
overflow_add-keys-in-loop-done c = let s = leaf_key_small {digit = c.args.first + c.loop-done.done} (omega (arith, c.requires.2)) c.requires.4 in omega (arith, c.requires.3)

pub offset_bounds-keys-place : goal.offset_bounds-keys-place
offset_bounds-keys-place c = omega (arith, c.requires.0, c.loop-done.invariant.keys_size, c.well_formed)

pub bounds-keys-place : goal.bounds-keys-place
bounds-keys-place c = omega (arith, c.requires.0, c.loop-done.invariant.keys_size)

pub offset_bounds-bits-place : goal.offset_bounds-bits-place
offset_bounds-bits-place c = omega (arith, c.requires.1, c.loop-done.invariant.bits_size, c.well_formed)

pub bounds-bits-place : goal.bounds-bits-place
bounds-bits-place c = omega (arith, c.requires.1, c.loop-done.invariant.bits_size)

pub loop-done-preserved : goal.loop-done-preserved
loop-done-preserved c = plants_turn c.loop-done.invariant c.loop-done-test.true

pub shape_of-keys : goal.shape_of-keys
shape_of-keys c = c.loop-done.invariant.keys_size

pub shape_of-bits : goal.shape_of-bits
shape_of-bits c = c.loop-done.invariant.bits_size

pub overflow_add-result : goal.overflow_add-result
overflow_add-result c = omega (arith, c.requires.0, c.well_formed)

pub returns : goal.returns
returns c = plants_end c.loop-done.invariant c.loop-done-test.false

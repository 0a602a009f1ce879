-- `renewing::renew` meets its contract: what is left to do from here gives the same as what was to do at the start.
use Rattle.std.proofs.Common.{◌*◌, arith}
use Rattle.replace.proofs.FamilyRead.{sorted_from, place_inside, place_among_first, multiple_le}
use Rattle.replace.proofs.RenewingLoop.{renew_begins, renew_step, renew_turns, renew_ends}
use Rattle.replace.proofs.renewing.renew.Goals as goal

pub loop-low-init : goal.loop-low-init
loop-low-init c = renew_begins _ _ _ _ _ _ _ _ c.requires.m_bound.1 c.power_of_five-step.ensures

pub parent_bits-own-requires : goal.parent_bits-own-requires
parent_bits-own-requires c =
    let s = renew_step c.loop-low.invariant c.requires.m_bound.0 c.loop-low-test.true in
    record { sorted = c.requires.sorted; paired = omega (arith, c.loop-low.invariant.size, c.requires.paired); key_lt_all_keys = (c.requires.m_bound.2, s.0, s.1) }

pub overflow_mul-step : goal.overflow_mul-step
overflow_mul-step c = let s = renew_step c.loop-low.invariant c.requires.m_bound.0 c.loop-low-test.true in omega (arith, s)

pub nonzero_div-key : goal.nonzero_div-key
nonzero_div-key c = let s = renew_step c.loop-low.invariant c.requires.m_bound.0 c.loop-low-test.true in omega (arith, s)

pub overflow_mul-key : goal.overflow_mul-key
overflow_mul-key c = let h = multiple_le c.args.key (c.loop-low.step * 5) in omega (arith, h, c.requires.m_bound)

pub place-place-requires : goal.place-place-requires
place-place-requires c = sorted_from c.requires.sorted _

pub offset_bounds-bits-place : goal.offset_bounds-bits-place
offset_bounds-bits-place c =
    let h = place_inside _ _ _ c.requires.paired (sorted_from c.requires.sorted _) c.place-place.ensures in
    omega (arith, h, c.loop-low.invariant.size, c.requires.paired, c.well_formed)

pub bounds-bits-place : goal.bounds-bits-place
bounds-bits-place c =
    let h = place_inside _ _ _ c.requires.paired (sorted_from c.requires.sorted _) c.place-place.ensures in
    omega (arith, h, c.loop-low.invariant.size, c.requires.paired)

pub loop-low-preserved : goal.loop-low-preserved
loop-low-preserved c =
    renew_turns c.loop-low.invariant c.loop-low-test.true c.requires.sorted c.requires.paired _ _ c.parent_bits-own.ensures (place_among_first _ _ c.place-place.ensures)

pub shape_of-bits : goal.shape_of-bits
shape_of-bits c = c.loop-low.invariant.size

pub returns : goal.returns
returns c = renew_ends c.loop-low.invariant c.loop-low-test.false c.requires.sorted c.requires.paired

-- `content_bits` meets its contract.
use Rattle.std.proofs.Common.{arith}
use Rattle.deeds.proofs.Lookups.{lent_sorted, found_inside, found_bits}
use Rattle.deeds.proofs.entries.content_bits.Goals as goal

pub place-place-requires : goal.place-place-requires
place-place-requires c = lent_sorted c.requires

pub overflow_add-result : goal.overflow_add-result
overflow_add-result c = let h = found_inside c.requires _ c.place-place.ensures in record { fits = omega (arith, h, c.requires.in_values, c.well_formed) }

pub offset_bounds-log_values-start : goal.offset_bounds-log_values-start
offset_bounds-log_values-start c = let h = found_inside c.requires _ c.place-place.ensures in record { fits = omega (arith, h, c.requires.in_values, c.well_formed) }

pub bounds-log_values-start : goal.bounds-log_values-start
bounds-log_values-start c = let h = found_inside c.requires _ c.place-place.ensures in omega (arith, h, c.requires.in_values)

pub returns : goal.returns
returns c = found_bits c.requires _ c.place-place.ensures

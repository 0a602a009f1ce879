-- `block_end` meets its contract.
use Rattle.std.proofs.Common.{arith}
use Rattle.apply_deed.proofs.BlockEnds.{part_asked, found_in, found_end}
use Rattle.apply_deed.proofs.block_end.block_end.Goals as goal

pub place_from-requires : goal.place_from-requires
place_from-requires c = part_asked c.requires

pub overflow_add-result : goal.overflow_add-result
overflow_add-result c = let h = found_in c.requires _ c.place_from.ensures in record { fits = omega (arith, h, c.requires.room, c.requires.some, c.well_formed) }

pub overflow_add-result-2 : goal.overflow_add-result-2
overflow_add-result-2 c = let h = found_in c.requires _ c.place_from.ensures in record { fits = omega (arith, h, c.requires.room, c.requires.some, c.well_formed) }

pub returns : goal.returns
returns c = found_end c.requires _ c.place_from.ensures

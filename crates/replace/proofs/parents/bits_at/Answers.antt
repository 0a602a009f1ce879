-- `parents::bits_at` meets its contract: the last key at or before x has the bits.
use Rattle.std.proofs.Common.{arith}
use Rattle.replace.proofs.FamilyRead.{place_inside, bits_found}
use Rattle.replace.proofs.parents.bits_at.Goals as goal

pub offset_bounds-bits-place : goal.offset_bounds-bits-place
offset_bounds-bits-place c = let below = place_inside _ _ _ c.requires.paired c.requires.sorted c.place.ensures in omega (arith, c.requires.paired, c.well_formed)

pub bounds-bits-place : goal.bounds-bits-place
bounds-bits-place c = let below = place_inside _ _ _ c.requires.paired c.requires.sorted c.place.ensures in omega (arith, c.requires.paired)

pub returns : goal.returns
returns c = bits_found _ _ _ c.requires.paired c.requires.sorted c.place.ensures

-- which waivers cover a block
pub mod FirstPixel
pub mod Covered
-- the merge: one waiver, one block, all blocks of a rule
pub mod OneWaiver
pub mod Settling
pub mod Leaves
pub mod Merge
-- the walk: a run along a block's records, its leaves, the way down
pub mod Until
pub mod BlockLeaves
pub mod Descent

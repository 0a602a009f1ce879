-- one slot, and four quadrants joined
pub mod OneSlot
pub mod Trailing
pub mod Joined
-- the check as a model: it accepts exactly the lists
pub mod Children
pub mod Sound
pub mod Complete
-- the check as code, in two slices
pub mod Places
pub mod Accepts
pub mod Pixels
pub mod Turn
pub mod AfterNode
pub mod Content
pub mod Accepted
-- where a key and a block stand among the records
pub mod Count
pub mod Among
pub mod Searched
pub mod Counted
pub mod Placed
pub mod Lookup
pub mod PartLength
-- what an accepted list shows
pub mod Own
pub mod Shown
pub mod ShownQuadrants
-- the standing, and the refusals that all calls begin with
pub mod Fuller
pub mod PatchLeaf
pub mod Taken
pub mod Tests
pub mod FirstRefusal

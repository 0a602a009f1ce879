-- keys that tile a block, and where its leaves end
pub mod EndOf
pub mod Tiles
-- the pass down the blocks accepts exactly the deliveries
pub mod Sound
pub mod Open
pub mod Complete
pub mod Delivery
-- reading: the quadrants, the pass, the writing
pub mod Quarters
pub mod PassBlock
pub mod LayBlock
pub mod LayList
-- writing: the leaves of a list
pub mod LeavesOf
pub mod Picking
-- the calls, and the round trip
pub mod ReadAnswer
pub mod WriteAnswer
pub mod RoundTrip
pub mod ReadWritten

-- one list, and the table of classes
pub mod OneList
pub mod Table
-- both lists at a block
pub mod TwoLeaves
pub mod BothLists
pub mod FourCalls
pub mod FourWrites
-- the call
pub mod CombineRefusal
pub mod WholeLists

-- where a block lies, and from block to block
pub mod Place
pub mod Lies
pub mod Steps
-- what the list says where the walk stands
pub mod SpotBits
pub mod Asked
pub mod Told
pub mod Going
pub mod Slot
pub mod Shows
-- the blocks that select gives, and the largest blocks of a window
pub mod Once
pub mod Few
pub mod Largest
pub mod Walked
-- the keys of records with given bits, and writing them
pub mod RecordsFrom
pub mod Content
pub mod Written
-- what select gives below the key where the walk stands
pub mod Lower
pub mod Skip
pub mod LeafKeys
pub mod Below

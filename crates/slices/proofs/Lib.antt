pub mod Sets
pub mod Moves
pub mod Writes
pub mod Parts

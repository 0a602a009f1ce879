pub mod Overlap
pub mod Number
pub mod Tally

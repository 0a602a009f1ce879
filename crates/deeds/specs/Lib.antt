pub mod Step
pub mod Meeting
pub mod Direction
pub mod Runs
pub mod Deed
pub mod Doing

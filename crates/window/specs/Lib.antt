pub mod Gather
pub mod Settled

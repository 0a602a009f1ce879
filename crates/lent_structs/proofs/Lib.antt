pub mod LentOn
pub mod Lent
pub mod Locals
pub mod Chains
pub mod Slices
pub mod Calling
pub mod Reborrow
pub mod TwoLent

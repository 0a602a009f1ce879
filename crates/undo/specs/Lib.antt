pub mod Planning
pub mod TakingBackCall
pub mod GroupCall
pub mod RedoCall

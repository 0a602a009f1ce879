pub mod Moved
pub mod RestStep
pub mod Run
pub mod Begun
pub mod Theorem
pub mod Exactly
pub mod Given
pub mod FromCalls
pub mod ByFile
pub mod CallsRest
pub mod LogByFile
pub mod Unseen
pub mod RasterShown
mod MapARests

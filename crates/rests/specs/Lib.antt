pub mod Events
pub mod AsLeft
pub mod Starts
pub mod Roomy
pub mod ByFile
pub mod Unseen

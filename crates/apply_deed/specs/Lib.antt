pub mod Passes
pub mod Shrink
pub mod Slide
pub mod Change
pub mod Recount

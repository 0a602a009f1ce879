pub mod Content
pub mod EditCallChecks
pub mod PaintCall
pub mod Recount

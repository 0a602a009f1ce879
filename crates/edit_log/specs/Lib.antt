pub mod Entries
pub mod Groups
pub mod Steps

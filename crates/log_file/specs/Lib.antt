pub mod Records
pub mod Head

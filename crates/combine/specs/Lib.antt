pub mod Combining
pub mod Ready

pub mod Put
pub mod Lent

pub mod Narrowed
pub mod Place
pub mod Refusal
pub mod Own

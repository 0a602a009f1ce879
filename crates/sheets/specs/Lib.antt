pub mod Ground
pub mod Together
pub mod Calls
pub mod Paints
pub mod Steps

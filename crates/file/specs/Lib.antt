pub mod Layout
pub mod Room
pub mod Head
pub mod After

pub mod Going
pub mod Pieces
pub mod Records
pub mod Lengths
pub mod Listed
pub mod Program
pub mod Meaning
pub mod Input

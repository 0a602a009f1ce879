pub mod Narrow
pub mod Place
pub mod Counted
pub mod Moved
pub mod Checked
pub mod Decided
pub mod Answers
pub mod OwnRows

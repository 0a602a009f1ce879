pub mod Count
pub mod Counts
pub mod Pass
pub mod Kept
pub mod Renew
pub mod First

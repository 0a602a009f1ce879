pub mod Covering
pub mod Sift

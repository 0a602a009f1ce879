pub mod Paint
pub mod Rearranged
pub mod Apart
pub mod Either

pub mod Key
pub mod Block
pub mod Under
pub mod Child
pub mod Span
pub mod KeySquare

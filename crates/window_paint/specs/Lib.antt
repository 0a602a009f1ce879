pub mod WindowLogging
pub mod Searching
pub mod PaintWindowCall

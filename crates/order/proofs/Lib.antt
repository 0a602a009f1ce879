pub mod Rearrangements
pub mod ApartBlocks
pub mod Swaps
pub mod Sheets
pub mod Theorem
pub mod AllPaints
pub mod LogLength
pub mod Refusals
pub mod OnASheet
pub mod NextPaint
pub mod Room
mod Counterexamples

pub mod Fold
pub mod Beginning
pub mod Replies
pub mod OfBatch
pub mod Answered
pub mod AskedAlone
pub mod RunTurns

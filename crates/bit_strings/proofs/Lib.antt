-- a worked sheet
mod Rows
-- bits and bytes, and from key to key
pub mod Bytes
pub mod NextBit
-- writing: the strings of a list
pub mod Packing
pub mod Bitwise
-- reading: block by block, counted and filled
pub mod Passing
pub mod Stepping
pub mod Counting
pub mod Filling
-- the calls: each way out
pub mod Answers
pub mod ReadAnswers
pub mod Shape
pub mod WriteAnswers
-- one list has one pair of strings, and each accepted pair one list
pub mod Unpacking
pub mod Places
pub mod Siblings
pub mod Trees
pub mod OnePair

-- exist and report on the walk
pub mod Seen
pub mod Gathered
-- select on the walk
pub mod BlockLeaves
pub mod Run
pub mod Taken
-- the calls: refusals, answers, and what they mean
pub mod Tables
pub mod Answers
pub mod WindowLaws
pub mod LeafBlocks
pub mod PassedLeaf
pub mod ListTaken

-- what the promises of the C functions say together
pub mod Uniqueness
pub mod OneAnswer
pub mod HistorySteps
pub mod OfficeSteps
pub mod AreaCalls
pub mod RestSteps
pub mod RestHistory
pub mod RestLog

-- the records as they lie in the bytes, and the check of a log there
pub mod Lent
pub mod InBytes
pub mod LastIn
pub mod EntryContent
pub mod LogParts
-- the head
pub mod HeadBytes
pub mod HeadAnswers
-- the calls: what is accepted, and each way out
pub mod LogAccepted
pub mod StoreAnswers
pub mod LoadAnswers
-- the round trip
pub mod LogFileOf
pub mod LogRoundTrip

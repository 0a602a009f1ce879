-- numbers, the mark, and runs of stores
pub mod NumberBytes
pub mod Marked
pub mod Stores
-- the layout: where a record lies, and what its bytes are
pub mod Laid
pub mod RecordBytes
pub mod ReadBytes
pub mod Fits
-- the check of a file's records
pub mod FileTurn
pub mod FileAfter
pub mod FilePixels
pub mod FileList
-- the calls: what is accepted, and each way out
pub mod Accepted
pub mod SliceRecords
pub mod HeadAnswers
pub mod StoreAnswers
pub mod LoadAnswers
-- the round trip
pub mod RoundTrip

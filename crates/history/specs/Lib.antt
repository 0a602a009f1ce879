pub mod History
pub mod Claim
pub mod OfficeRuns

pub mod Refused
pub mod Needed
pub mod Vectors
mod MapA
mod Orders
mod Corners
mod AreaVectors
mod LeafVectors
mod FourWaivers
mod ClassVectors
mod RedoVectors
mod GroupVectors
mod LogFileVectors
mod ListingVectors
mod CombineVectors
mod OfficeVectors
mod FullOffice

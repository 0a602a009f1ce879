pub mod WindowEntries
pub mod WindowLies
pub mod EntriesLogged
pub mod WindowNeeds
pub mod WindowSearch
pub mod WindowFilled
pub mod PaintWindowTable
pub mod GroupLogged

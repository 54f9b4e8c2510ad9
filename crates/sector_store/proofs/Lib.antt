pub mod Meant
pub mod Blocks
pub mod Strays
pub mod Made
pub mod Calls
pub mod SpareSectors
pub mod WritesInOrder
pub mod TriesInOrder
pub mod Rewriting
pub mod Recovering
mod Histories
pub mod RecordOps
pub mod MapOps
pub mod Committing
pub mod Cached
pub mod Written
mod Examples
mod ShapeExamples

pub mod Kept
pub mod Newest
pub mod Parameters
pub mod Examples

pub mod Sorting
pub mod Addresses
pub mod Examples

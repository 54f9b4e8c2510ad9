pub mod Passes
pub mod Examples

pub mod Flags
pub mod Reach
pub mod Back
pub mod Zeros

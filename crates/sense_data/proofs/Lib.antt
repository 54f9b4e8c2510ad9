pub mod Alike
pub mod Marked
pub mod Twice
pub mod Examples

pub mod Gathering
pub mod Comparing
pub mod Worth
pub mod Splitting
pub mod Chunks
pub mod Numerals
pub mod Words
mod Rows
pub mod Decoding
pub mod Filled
pub mod PairTable

pub mod Bits
pub mod Code
pub mod Laws
pub mod Reading
pub mod Steps
pub mod Words

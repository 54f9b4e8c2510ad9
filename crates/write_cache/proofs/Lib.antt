pub mod Places
pub mod Halves
pub mod Addresses
pub mod Front
pub mod Kept
pub mod Least
pub mod BlockByBlock

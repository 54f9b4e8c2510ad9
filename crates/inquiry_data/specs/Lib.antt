pub mod Identity
pub mod Capacity
pub mod Luns

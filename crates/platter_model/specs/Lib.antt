pub mod Sector
pub mod Given
pub mod TrueLog
pub mod State
pub mod Places
pub mod Laws

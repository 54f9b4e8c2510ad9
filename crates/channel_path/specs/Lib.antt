pub mod Sector
pub mod Laws

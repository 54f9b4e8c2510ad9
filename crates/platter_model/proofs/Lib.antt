mod Examples
pub mod Lists
pub mod Newest
pub mod AtPlaces
pub mod Sectors
pub mod Beside
pub mod Lined
pub mod Logs
pub mod Silent
pub mod Notes

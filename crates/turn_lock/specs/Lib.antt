pub mod Lists
pub mod View
pub mod Rule
pub mod Pass
pub mod TryTurn

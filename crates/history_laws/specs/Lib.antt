pub mod Order
pub mod Unread

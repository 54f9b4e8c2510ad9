pub mod Line
pub mod Number
pub mod Digits
pub mod Data
pub mod Written
pub mod ToSink
pub mod Laws

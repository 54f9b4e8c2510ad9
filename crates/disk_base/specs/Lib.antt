pub mod Cdb
pub mod Payload
pub mod Along
pub mod At

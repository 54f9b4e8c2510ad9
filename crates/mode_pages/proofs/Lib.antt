pub mod Lengths
pub mod FrontPage
pub mod Bits
pub mod TakenBack
pub mod Examples

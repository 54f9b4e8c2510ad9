pub mod Touch
pub mod MayStart
pub mod Members

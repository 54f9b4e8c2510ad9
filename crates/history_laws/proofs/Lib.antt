mod Examples
pub mod OrderLaw
mod Premises
pub mod Refusals
pub mod UnreadLaw

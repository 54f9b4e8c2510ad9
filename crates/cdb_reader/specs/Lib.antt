pub mod Fields
pub mod Operation
pub mod Plan
pub mod Read
pub mod Reassign
pub mod Replies
pub mod Request

pub mod Owed
pub mod Course
pub mod Need
pub mod Ending
pub mod Standing
pub mod Answers
pub mod Bound
pub mod Laws

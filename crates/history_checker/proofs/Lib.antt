pub mod AllCome
pub mod AllEnded
pub mod Ahead
pub mod Coming
pub mod Courses
mod Examples
pub mod Falling
pub mod GoodLaws
pub mod Keeping
pub mod Ranges
pub mod Verdicts

pub mod Building
mod FirstExamples
mod WorkedHistories
mod BlockRules
mod TaskRules
mod ReplyRules
mod AttentionRules
mod LawExamples
pub mod Booleans
pub mod Alongs
pub mod Projection
pub mod OneBlock
pub mod BlockLaws
pub mod Values
pub mod Stepwise
pub mod OneCommand
pub mod SinceStart
pub mod Replies
pub mod ReadLaw
pub mod WriteSteps
pub mod WriteLaw
pub mod SyncLaw
pub mod Counting
pub mod Statuses
pub mod Starts
pub mod KeptValues
pub mod PutLaw
pub mod StageLaw
pub mod Ends
pub mod Hardens

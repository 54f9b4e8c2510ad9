pub mod TagLemmas
pub mod DrawLemmas
pub mod MarkLaws
pub mod WordLaws
pub mod NestingLaw
mod Examples
pub mod IdLaws
pub mod HarmlessLaws

pub mod Findings
pub mod Pages

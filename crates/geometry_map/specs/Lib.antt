pub mod Limits
pub mod Size
pub mod DefectMap
pub mod Slips
pub mod Chains
pub mod Laws
pub mod Placer
pub mod ValidMap

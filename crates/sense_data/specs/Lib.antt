pub mod Sense
pub mod Attentions

pub mod Settings
pub mod Pages
pub mod Refusals
pub mod ModeSense
pub mod ModeSelect
pub mod Laws

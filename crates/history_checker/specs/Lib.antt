pub mod Good
pub mod Laws
pub mod Parts
pub mod Same
pub mod Standing
pub mod Walk

pub mod Levels
pub mod Detected
pub mod Trellis
pub mod Sums
pub mod Clean
pub mod LevelBits
pub mod Starts

pub mod Ages
pub mod CommonBlock
pub mod Free
pub mod Examples

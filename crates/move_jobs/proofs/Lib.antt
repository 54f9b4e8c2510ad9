pub mod ChainEnds
pub mod ChainsGrow
pub mod Examples

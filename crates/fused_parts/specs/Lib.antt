pub mod Nodes
pub mod Parts
pub mod Ranks
pub mod code

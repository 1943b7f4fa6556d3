pub mod Edges
pub mod Jumps
pub mod Lasts
pub mod Onward

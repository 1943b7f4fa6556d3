pub mod Nearby
pub mod Entered
pub mod Edges
pub mod Fused

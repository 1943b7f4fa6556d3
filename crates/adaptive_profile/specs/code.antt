-- Companions of the code. Nothing here has to be believed.
pub mod Graphs
pub mod On
pub mod Pairs
pub mod Ready
pub mod Returns

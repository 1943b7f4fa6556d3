-- Companions of proofs and laws: runs by steps of a stack of frames, and one such row of states beside another.
pub mod Simulation
pub mod Steps

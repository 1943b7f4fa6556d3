-- Companions of the code: the search for the first fault, and what is found in one traversal. Nothing here has to be believed.
pub mod Arcs
pub mod Cases
pub mod Entries
pub mod Numbers
pub mod Operands
pub mod Phis
pub mod Search
pub mod Strip
pub mod Walk

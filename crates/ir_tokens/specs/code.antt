-- Companions of the code. Nothing here has to be believed.
pub mod Behind
pub mod Ends
pub mod Kinds
pub mod Moves

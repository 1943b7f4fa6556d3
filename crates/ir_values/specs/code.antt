-- Companions of the code. Nothing here has to be believed.
pub mod CallRows
pub mod Double

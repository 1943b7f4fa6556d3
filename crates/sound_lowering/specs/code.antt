-- Companions of the laws. Nothing here has to be believed.
pub mod Rules

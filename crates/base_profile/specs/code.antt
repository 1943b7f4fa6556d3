-- Companions of the code. Nothing here has to be believed.
pub mod Called
pub mod Order
pub mod Ready
pub mod Rules
pub mod Walked

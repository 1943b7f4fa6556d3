-- Companions of the code. Nothing here has to be believed.
pub mod Shown
pub mod Told
pub mod Within

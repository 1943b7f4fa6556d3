-- Companions of the code. Nothing here has to be believed.
pub mod Frames
pub mod Places
pub mod Scenes
pub mod Standing

pub mod Frames
pub mod code

pub mod Parts
pub mod Spaced

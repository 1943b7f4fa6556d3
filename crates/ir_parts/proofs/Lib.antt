pub mod Slices
pub mod Spaced
pub mod Stops

pub mod Builds
pub mod Tells

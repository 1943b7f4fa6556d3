pub mod Begun
pub mod Led
pub mod Reached
pub mod Tails

pub mod Calls
pub mod Instructions
pub mod Terms
pub mod Turns
pub mod Whole

pub mod Items
pub mod Names
pub mod Parts
pub mod Steps
pub mod Tails
pub mod Whole

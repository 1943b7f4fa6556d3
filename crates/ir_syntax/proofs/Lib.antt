pub mod Choices
pub mod Inner
pub mod Last
pub mod OneAnswer
pub mod Without

pub mod OneAnswer
pub mod Answers
pub mod InOrder

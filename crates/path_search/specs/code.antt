pub mod Frontier
pub mod Steps
pub mod Visit
pub mod Answers
pub mod Assembly

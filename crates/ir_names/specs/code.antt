pub mod Answers
pub mod Names
pub mod Tables
pub mod Seen
pub mod Held
pub mod Marked

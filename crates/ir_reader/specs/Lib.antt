pub mod code
pub mod Codes
pub mod Spelling
pub mod Misreading
pub mod Answers
pub mod Laws

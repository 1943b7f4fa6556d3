pub mod Along
pub mod Answered
pub mod Aptly
pub mod Beginning
pub mod Calling
pub mod Hearing
pub mod Instructions
pub mod Stepping

pub mod Breaks
pub mod code
pub mod Faults
pub mod Forms
pub mod Tokens

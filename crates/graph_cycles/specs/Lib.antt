pub mod Cycles
pub mod Split
pub mod code

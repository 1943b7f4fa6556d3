pub mod Allocated
pub mod code

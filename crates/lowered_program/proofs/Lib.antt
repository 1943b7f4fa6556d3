pub mod Counted
pub mod Functions
pub mod Greatest

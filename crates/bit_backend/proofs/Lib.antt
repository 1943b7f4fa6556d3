pub mod Histories
pub mod Names
pub mod Renaming
pub mod Shapes
pub mod Writes

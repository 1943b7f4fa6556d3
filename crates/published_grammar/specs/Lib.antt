pub mod SameLanguage
pub mod Types
pub mod Instructions
pub mod Blocks
pub mod Functions
pub mod Metadata
pub mod Module

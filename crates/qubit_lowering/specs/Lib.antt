pub mod Sources
pub mod Lowered
pub mod Codes
pub mod Kept

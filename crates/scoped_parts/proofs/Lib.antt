pub mod Fits
pub mod Good
pub mod Operations
pub mod Rows
pub mod Typed
pub mod Walk
pub mod Widths

pub mod Bytes
pub mod Declared
pub mod Entry
pub mod Flags
pub mod Order
pub mod Steps
pub mod Values
pub mod Whole

pub mod Keeping
pub mod Counters
pub mod Shared
pub mod Sound
pub mod Good
pub mod Whole

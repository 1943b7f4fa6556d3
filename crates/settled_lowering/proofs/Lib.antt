pub mod Searches
pub mod Offsets
pub mod Turns
pub mod BaseBlocks
pub mod BaseTurns
pub mod BaseSettles

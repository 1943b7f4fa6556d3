pub mod Edges
pub mod FirstBlocks
pub mod Numbers
pub mod PhiEntries
pub mod Placed
pub mod Rules
pub mod Typed
pub mod Types

pub mod DecidedTypes
pub mod DecidedOperands
pub mod DecidedInstructions
pub mod DecidedBlocks
pub mod DecidedItems

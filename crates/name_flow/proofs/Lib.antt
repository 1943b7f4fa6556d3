pub mod Order
pub mod Members
pub mod Spreading
pub mod BlockRuns
pub mod Marked
pub mod Liveness

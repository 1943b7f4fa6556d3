pub mod BitRuns
pub mod Summaries
pub mod Lines
pub mod Alike
pub mod Laws
pub mod code

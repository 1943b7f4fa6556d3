pub mod Lists
pub mod Counts
pub mod Levels
pub mod Points
pub mod Walks
pub mod Told

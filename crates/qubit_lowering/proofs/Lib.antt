pub mod Budget
pub mod Entries
pub mod Kept
pub mod Returned
pub mod Words

pub mod Chains
pub mod Lists
pub mod Marks
pub mod Verdicts
pub mod Walks

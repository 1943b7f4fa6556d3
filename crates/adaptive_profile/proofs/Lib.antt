pub mod Called
pub mod Lists
pub mod Loops
pub mod PairSets
pub mod Returns
pub mod Told
pub mod Verdicts

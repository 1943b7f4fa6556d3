pub mod Visits
pub mod Verdicts

pub mod Openings
pub mod Budgets

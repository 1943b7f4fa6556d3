pub mod Fitting
pub mod Sources
pub mod Again

pub mod Operations
pub mod Naming
pub mod Backend

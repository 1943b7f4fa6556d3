pub mod Entries
pub mod Flows

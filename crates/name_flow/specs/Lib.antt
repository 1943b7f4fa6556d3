pub mod Tables
pub mod Uses
pub mod Walks
pub mod code

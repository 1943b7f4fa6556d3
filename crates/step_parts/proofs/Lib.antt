pub mod Ahead
pub mod Classes
pub mod Packs
pub mod Points
pub mod Puts

pub mod Items
pub mod Laws
pub mod Turns
pub mod Types

pub mod Actions
pub mod Bits
pub mod Laws
pub mod code

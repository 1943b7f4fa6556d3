pub mod Along
pub mod Called

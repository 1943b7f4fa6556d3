pub mod Returns
pub mod code

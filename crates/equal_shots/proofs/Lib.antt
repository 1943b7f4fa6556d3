pub mod Named
pub mod Equal

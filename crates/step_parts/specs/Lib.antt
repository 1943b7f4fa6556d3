pub mod Lives
pub mod code

pub mod Programs
pub mod Sound
pub mod Laws
pub mod code

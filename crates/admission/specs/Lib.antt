pub mod Admitted
pub mod Live
pub mod Stops
pub mod code

pub mod Apart
pub mod Behaviour
pub mod Bounds
pub mod Bridge
pub mod Forms
pub mod Grow
pub mod Worked

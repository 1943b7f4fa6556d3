pub mod Joined
pub mod Linear
pub mod Phases
pub mod Row
pub mod Whole

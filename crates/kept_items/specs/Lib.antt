pub mod Items
pub mod Targets

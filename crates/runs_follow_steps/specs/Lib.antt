pub mod Describes
pub mod Laws
pub mod Meets

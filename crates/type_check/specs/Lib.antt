pub mod Codes
pub mod Faults
pub mod Laws
pub mod Required
pub mod Rules
pub mod Told
pub mod Typing
pub mod code

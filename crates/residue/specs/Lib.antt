pub mod Functions
pub mod Instructions
pub mod Phases
pub mod Printed
pub mod Scopes
pub mod Valid

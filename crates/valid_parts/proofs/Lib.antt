pub mod Begins
pub mod Ends
pub mod Made
pub mod Rules
pub mod Scopes
pub mod Steps

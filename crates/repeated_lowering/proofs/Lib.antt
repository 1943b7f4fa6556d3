pub mod Chain
pub mod Made
pub mod Irreversible
pub mod Phases
pub mod Printing
pub mod Repeats
pub mod Premises

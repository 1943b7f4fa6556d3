mod Naming
pub mod Worked

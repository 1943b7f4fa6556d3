pub mod Residues
pub mod Parameters
pub mod code

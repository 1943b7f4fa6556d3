pub mod Jumps
pub mod Operands
pub mod Phis
pub mod Stacks
pub mod Widths

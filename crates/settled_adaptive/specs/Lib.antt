pub mod Laws
pub mod Undecided

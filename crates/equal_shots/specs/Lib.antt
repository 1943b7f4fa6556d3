pub mod Laws
pub mod Shots

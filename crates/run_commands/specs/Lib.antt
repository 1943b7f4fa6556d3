pub mod Laws
pub mod Shots
pub mod Words
pub mod code

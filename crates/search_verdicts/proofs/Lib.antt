pub mod Telling
pub mod Returning
pub mod Searching
pub mod Listed
pub mod Parents

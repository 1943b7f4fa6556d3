-- Companions of the code. Nothing here has to be believed.
pub mod Judged
pub mod Tables

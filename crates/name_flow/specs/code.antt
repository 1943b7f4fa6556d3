-- Companions of the code: the tables of a flow and how they are made. Nothing here has to be believed.
pub mod Built
pub mod Marks
pub mod Runs
pub mod Spread
pub mod Triples

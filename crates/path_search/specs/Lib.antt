pub mod Paths
pub mod Openings
pub mod Verdict
pub mod Explored
pub mod Laws
pub mod code

pub mod Issues
pub mod Laws

pub mod Fused
pub mod Laws

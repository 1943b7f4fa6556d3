pub mod Laws
pub mod Lasting

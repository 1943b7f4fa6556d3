pub mod Laws
pub mod Reporting

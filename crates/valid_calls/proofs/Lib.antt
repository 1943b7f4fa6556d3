pub mod Agree
pub mod Issued
pub mod Items
pub mod Named
pub mod Small
pub mod Sources
pub mod Whole

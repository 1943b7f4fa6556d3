pub mod Rows
pub mod PartRows
pub mod Within
pub mod Walks

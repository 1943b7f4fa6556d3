pub mod Appended
pub mod GroupLists
pub mod LocalTypes
pub mod OpenTypes
pub mod Powers
pub mod Samples

pub mod Items
pub mod Marks
pub mod Meant
pub mod Printed
pub mod Texts
pub mod Whole

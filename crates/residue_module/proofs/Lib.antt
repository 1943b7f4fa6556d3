pub mod Appended
pub mod Bodies
pub mod Entering
pub mod Named
pub mod Printing
pub mod Whole

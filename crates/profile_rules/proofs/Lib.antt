pub mod Adaptive
pub mod Base
pub mod Listed
pub mod Numbers
pub mod Order
pub mod Positions
pub mod Worked

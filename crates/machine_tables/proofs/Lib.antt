pub mod Looking
pub mod Numbers
pub mod Bits
pub mod Behind

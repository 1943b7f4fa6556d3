pub mod Known
pub mod Offers
pub mod InMemory
pub mod Streams

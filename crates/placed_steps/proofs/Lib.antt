pub mod Behaviour

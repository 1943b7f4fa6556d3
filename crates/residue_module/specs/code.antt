pub mod Blocks
pub mod Bodies
pub mod Edges
pub mod Lines
pub mod Names
pub mod Scenes

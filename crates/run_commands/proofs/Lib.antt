pub mod Ended
mod Played
mod Reading
mod Single
mod Told

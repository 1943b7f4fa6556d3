mod Backing
mod Existing
mod Single
mod Ticking
mod Turning

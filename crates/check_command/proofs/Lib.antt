mod Exist
mod Reach
mod Same
mod Tables

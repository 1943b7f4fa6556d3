mod Alike
mod Exist
mod One
mod Played
mod Summed

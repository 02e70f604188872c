mod Exits
mod Single

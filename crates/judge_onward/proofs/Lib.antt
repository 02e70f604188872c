pub mod Exits
pub mod Single

pub mod Turns
pub mod Single

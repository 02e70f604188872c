pub mod Turns
pub mod Powers
pub mod Single

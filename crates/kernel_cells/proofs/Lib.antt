pub mod Loops
pub mod Single

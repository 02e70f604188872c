mod Loops
pub mod Single

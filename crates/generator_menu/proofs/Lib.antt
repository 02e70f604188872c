pub mod Loops
pub mod Tied
pub mod Single

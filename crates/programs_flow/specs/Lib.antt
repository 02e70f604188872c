pub mod Flow
pub mod Loops

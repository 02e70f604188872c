pub mod Work
pub mod Turns

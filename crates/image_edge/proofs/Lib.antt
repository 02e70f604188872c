mod Halves
pub mod Single

pub mod Theorems
pub mod Single

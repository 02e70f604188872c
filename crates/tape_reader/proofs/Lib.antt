pub mod Readers
pub mod Single

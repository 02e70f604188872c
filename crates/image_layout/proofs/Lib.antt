pub mod Copying
pub mod Single

pub mod Puts
pub mod Single

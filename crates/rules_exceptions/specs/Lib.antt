pub mod Exceptions
pub mod Words

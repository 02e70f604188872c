pub mod Closing
pub mod Feeding
pub mod Single

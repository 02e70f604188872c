pub mod Stores
pub mod Turns
pub mod Starts
pub mod Worked
pub mod Answers
pub mod Single

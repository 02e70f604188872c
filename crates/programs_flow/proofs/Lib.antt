pub mod Single
pub mod Rooms
pub mod Turns

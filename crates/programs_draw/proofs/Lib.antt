pub mod Rooms
pub mod Draws

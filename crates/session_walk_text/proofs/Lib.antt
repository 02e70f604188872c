pub mod Theorems
pub mod Rooms

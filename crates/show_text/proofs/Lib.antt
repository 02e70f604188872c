pub mod Indents
pub mod Blocks
pub mod Steps
pub mod Theorems
pub mod Worked
pub mod Rooms

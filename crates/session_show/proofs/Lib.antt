pub mod Carrying
pub mod Feeding
pub mod Closing
pub mod Single

pub mod Walk
pub mod Sizes

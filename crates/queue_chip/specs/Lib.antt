pub mod Queue
pub mod Chip
pub mod Words

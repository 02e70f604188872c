pub mod Block
pub mod Show
pub mod Words

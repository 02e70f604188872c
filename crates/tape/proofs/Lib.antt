pub mod Copy
pub mod Single

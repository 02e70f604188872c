pub mod Reading
pub mod Single

pub mod Behind
pub mod Single

pub mod Returns
pub mod Single

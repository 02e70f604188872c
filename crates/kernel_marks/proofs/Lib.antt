mod Laws
pub mod Single

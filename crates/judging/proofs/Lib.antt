pub mod Bytewise
pub mod Whole
pub mod Single

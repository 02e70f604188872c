pub mod Shipped
pub mod Ways
pub mod Single

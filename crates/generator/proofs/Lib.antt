pub mod Shipped
pub mod Stream
pub mod Ways
pub mod Single

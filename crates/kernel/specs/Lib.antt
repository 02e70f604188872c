pub mod View
pub mod Lent
pub mod Public
pub mod Step
pub mod Test

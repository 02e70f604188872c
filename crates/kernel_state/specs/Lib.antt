pub mod Settle
pub mod Public

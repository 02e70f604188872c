pub mod Public
pub mod Tables

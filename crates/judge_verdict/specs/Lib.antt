pub mod Verdict
pub mod Behind

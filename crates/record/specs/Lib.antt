pub mod Form
pub mod Fault

pub mod Line
pub mod Machine
pub mod Kinds
pub mod Table
pub mod Numbers
pub mod Refusals
pub mod Sound
pub mod Run

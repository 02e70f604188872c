pub mod Bits
pub mod Kept
pub mod Shown
pub mod Theorems
pub mod Worked

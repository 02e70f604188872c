pub mod Words
pub mod Theorems
pub mod Numbers
pub mod Worked

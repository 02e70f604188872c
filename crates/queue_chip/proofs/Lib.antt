pub mod Search
pub mod Laws
pub mod Runs
pub mod Chips
pub mod Theorems
pub mod Worked

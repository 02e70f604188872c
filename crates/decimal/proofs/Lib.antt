pub mod Stores
pub mod BothWays
pub mod Theorems

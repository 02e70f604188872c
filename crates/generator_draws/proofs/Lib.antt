pub mod Undone
pub mod Chooses
pub mod Odds
pub mod Choice
pub mod Legal
pub mod Exact
pub mod Theorems
pub mod Rows

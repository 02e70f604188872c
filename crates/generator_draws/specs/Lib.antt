pub mod Xorshift
pub mod Below
pub mod Menu
pub mod Draw
pub mod Odds

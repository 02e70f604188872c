pub mod Ends
pub mod Feeds
pub mod Puts
pub mod Rounds
pub mod Tapes

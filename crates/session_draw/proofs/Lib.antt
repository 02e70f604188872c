pub mod Drawing
pub mod DrawWhole
pub mod LongFirst
pub mod Profiles
pub mod Accepted
pub mod Single

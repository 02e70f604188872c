pub mod Ends
pub mod CarryingOut
pub mod Filling
pub mod Cuts
pub mod Single

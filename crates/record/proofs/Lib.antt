pub mod Filled
pub mod Digits
pub mod RoundTrip
pub mod Faults
pub mod Single

pub mod Parts
pub mod Numbers
pub mod RoundTrip
pub mod Asked

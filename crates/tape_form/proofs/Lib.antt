pub mod Writing
pub mod Reading
pub mod RoundTrip
pub mod Runs
pub mod Answers

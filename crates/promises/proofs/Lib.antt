pub mod Tied
pub mod Promises
pub mod Worked
pub mod Exceptions

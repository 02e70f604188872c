pub mod Words
pub mod Commands
pub mod Printed
pub mod FirstLine
pub mod Lines

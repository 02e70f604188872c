pub mod Decimal
pub mod Buffer

pub mod Spelled
pub mod Expressions
pub mod Readings

pub mod Ranges
pub mod Chaining

pub mod Matching
pub mod Bounds

pub mod Causes
pub mod Extremes

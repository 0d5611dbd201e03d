pub mod Prefixes
pub mod Extremes
pub mod Insides
pub mod Groups
pub mod Fronts
pub mod Examples

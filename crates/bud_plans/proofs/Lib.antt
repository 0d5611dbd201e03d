pub mod Greatest
pub mod Duality

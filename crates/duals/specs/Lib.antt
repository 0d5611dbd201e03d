pub mod Terms
pub mod Duals

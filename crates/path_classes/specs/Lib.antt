pub mod Placing
pub mod Layering

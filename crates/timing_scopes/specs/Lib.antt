pub mod Resolving
pub mod Changing

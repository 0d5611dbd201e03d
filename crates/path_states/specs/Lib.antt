pub mod Tables
pub mod Entering
pub mod Exploring
pub mod Groups

pub mod Lines
pub mod Policies
pub mod Reading

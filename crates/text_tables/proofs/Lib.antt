pub mod Texts
pub mod Searches
mod Steps

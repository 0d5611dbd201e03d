pub mod FanoutLists
pub mod Leaving
pub mod Walks
pub mod Reached

pub mod Launches
pub mod Turns
pub mod Lists
pub mod Classes

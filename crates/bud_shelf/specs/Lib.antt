pub mod Outside
pub mod Stored
pub mod Kept
pub mod Calls
pub mod Memory

pub mod Entries
pub mod Heaps
pub mod Offers
pub mod Clearing
pub mod Searches
pub mod Insides

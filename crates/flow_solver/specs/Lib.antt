pub mod Entries
pub mod Spreading
pub mod Searches
pub mod Lifts
pub mod Pushes
pub mod Rounds

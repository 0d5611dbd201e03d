pub mod Characters
pub mod Words
pub mod Commands
pub mod Scanning
pub mod Answers
pub mod Lists

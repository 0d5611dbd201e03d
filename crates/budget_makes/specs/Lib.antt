pub mod Words
pub mod OwnFiles
pub mod Makes
pub mod Jobs

pub mod RawFiles
pub mod Problems
pub mod Words
pub mod Jobs
pub mod Writing
pub mod Runs
pub mod BestBudgets

pub mod Rising
pub mod Searching
pub mod FirstSteps
pub mod RankSteps

pub mod Weights
pub mod Summaries

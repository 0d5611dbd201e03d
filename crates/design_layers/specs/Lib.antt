pub mod Views
pub mod GroupMarks
pub mod GroupedStates
pub mod Checking
pub mod Weights

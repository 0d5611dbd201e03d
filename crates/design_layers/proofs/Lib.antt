mod MarkSteps
pub mod ArcItems
pub mod StateLimit
pub mod ItemLimit
pub mod Layerings
pub mod WeightLaws

pub mod Loads
pub mod Joins
pub mod WalkLaws
pub mod FlatLaws
pub mod PlacingLaws
pub mod TopLaws
pub mod AnswerLaws
pub mod CleanLaws

pub mod States
pub mod Ranges
pub mod Edits
pub mod Answers
pub mod StateAnswers

pub mod ProblemLaws
pub mod WritingLaws

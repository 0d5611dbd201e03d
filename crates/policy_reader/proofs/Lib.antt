pub mod LineLemmas
pub mod PolicyLaws
pub mod RangeLaws

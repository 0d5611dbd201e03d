pub mod NumberLemmas
pub mod AnswerLemmas
pub mod TimeLemmas
pub mod CollectedLemmas
pub mod OpenLemmas
pub mod ListedLemmas
pub mod FileLemmas
pub mod CommandLemmas
mod RangeLemmas
pub mod OptionWords

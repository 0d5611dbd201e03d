pub mod NumberedLemmas
pub mod ScriptLaws

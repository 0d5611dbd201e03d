pub mod Bytes
pub mod FrontLemmas
pub mod PairLaws
pub mod ProgressLaws
pub mod TokenLaws
pub mod SpellingLaws

pub mod JudgedLaws
pub mod DelayLaws
pub mod ScopeLaws
pub mod OrderLaws
pub mod Members
pub mod SourceLaws
pub mod LaunchLaws
pub mod ResolveLaws

pub mod WordLemmas
pub mod OwnLayouts
pub mod Mades
pub mod MakeLaws

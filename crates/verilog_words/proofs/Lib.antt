pub mod OutsideLaws
pub mod FinderLaws

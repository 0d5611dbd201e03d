pub mod TextLaws
pub mod FrontLaws
pub mod MeaningLaws
pub mod FlatLaws
pub mod KeyLaws

pub mod Finding
pub mod KeyLaws
pub mod ChainLaws

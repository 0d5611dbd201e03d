pub mod Keys
pub mod ChainLists
pub mod Chained

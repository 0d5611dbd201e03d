pub mod KeyLists
pub mod Insides

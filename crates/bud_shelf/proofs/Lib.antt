pub mod Names
pub mod KeptLists

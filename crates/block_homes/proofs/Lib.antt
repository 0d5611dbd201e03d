pub mod OneLeaf
pub mod Homes

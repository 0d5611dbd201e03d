pub mod Kinds
pub mod Fronts
pub mod Classes
pub mod Tokens
pub mod Spelling
pub mod Progress

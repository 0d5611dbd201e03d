pub mod Fronts
pub mod FreeLetters

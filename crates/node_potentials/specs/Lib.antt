pub mod Moves
pub mod Rounds
pub mod Insides

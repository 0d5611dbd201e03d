pub mod Insides
pub mod LineLaws
pub mod SoundShares

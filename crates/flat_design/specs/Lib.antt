pub mod Flats
pub mod Fronts
pub mod Keyed
pub mod Kinds

pub mod JoinsWithin
pub mod LayeredPaths
pub mod NamedPlaces

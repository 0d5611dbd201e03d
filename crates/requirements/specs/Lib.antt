pub mod SoundScopes
pub mod Ordering
pub mod Constraining
pub mod Gathering
pub mod LeafTimings
pub mod Gathered

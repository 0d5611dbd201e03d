pub mod Sweeps
pub mod LayerPlaces
pub mod LayerPaths
pub mod LayerSlack
pub mod LayerOrder
pub mod LayerSoundness
pub mod LayerCounts
pub mod LayerRanges

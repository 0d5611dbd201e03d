pub mod ReachedStates
pub mod LiveStates
pub mod LayerStates

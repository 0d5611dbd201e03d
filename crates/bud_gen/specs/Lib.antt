pub mod Draws
pub mod Signals
pub mod Gates
pub mod Netlists
pub mod DelayFiles
pub mod ConstraintFiles
pub mod Policies

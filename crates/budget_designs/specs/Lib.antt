pub mod Files
pub mod Inputs
pub mod DesignFiles
pub mod Designs
pub mod TimedDesigns
pub mod Slacks
pub mod Jobs
pub mod Layerings

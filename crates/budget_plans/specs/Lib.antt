pub mod Files
pub mod FileNames
pub mod Layouts
pub mod Plans
pub mod Writing
pub mod Verdicts
pub mod Jobs

pub mod Lines
pub mod Problems
pub mod Reading
pub mod Writing

pub mod Certs
pub mod Exceptions
pub mod Lines
pub mod Texts
pub mod Reading
pub mod Sizes
pub mod Writing

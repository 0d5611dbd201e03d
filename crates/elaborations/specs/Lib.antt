pub mod Ports
pub mod Elaborations
pub mod Walks

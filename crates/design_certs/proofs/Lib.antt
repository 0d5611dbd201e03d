pub mod LayeredClasses
pub mod Naming

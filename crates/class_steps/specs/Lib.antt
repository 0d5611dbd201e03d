pub mod Classes
pub mod Groups
pub mod Keys
pub mod Tables

pub mod Reserved
pub mod Outside
pub mod Turns
pub mod LeftOut
pub mod Neighbours

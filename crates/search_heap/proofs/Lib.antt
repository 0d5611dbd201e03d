pub mod HeapOrder
pub mod Offering
pub mod Sifting
pub mod Ordering
pub mod Clearing
pub mod Keeping

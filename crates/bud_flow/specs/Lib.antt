pub mod Sums
pub mod Flows
pub mod Arrivals

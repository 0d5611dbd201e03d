pub mod ClockNames
pub mod PartReadings

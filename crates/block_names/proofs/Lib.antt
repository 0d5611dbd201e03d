pub mod NamesBelow
pub mod ClockNames
pub mod BlockClockNames
pub mod FormReadings
pub mod FormsReadable
pub mod DelayReadings

pub mod ClockNames

pub mod Answers
pub mod PortNames
pub mod Objects
pub mod Within
pub mod Spans
pub mod ClockTables
pub mod PortTables

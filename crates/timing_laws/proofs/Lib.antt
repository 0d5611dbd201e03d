pub mod WireDelays
pub mod OneTables

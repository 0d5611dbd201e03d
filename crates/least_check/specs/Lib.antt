pub mod Arrivals
pub mod WorstEnds
pub mod Traces
pub mod WorstPaths
pub mod Checkers
pub mod Least

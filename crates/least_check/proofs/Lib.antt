pub mod ArrivalSteps
pub mod StartSteps
pub mod CarrySteps
pub mod WorstEndSteps
pub mod TraceSteps
pub mod Verdicts

pub mod Placing
pub mod Faults
pub mod Surveys
pub mod Walking
pub mod Elaborating

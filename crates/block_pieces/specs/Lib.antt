pub mod BlockReach
pub mod Standing
pub mod BlockReadings
pub mod Reads

pub mod WireLists
pub mod OneTiming

pub mod Noting
pub mod Keeping

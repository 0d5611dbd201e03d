pub mod Left
pub mod Gives
pub mod Digits
pub mod Decimals
pub mod Cursors
pub mod Scans
pub mod Repeat
pub mod Nesting

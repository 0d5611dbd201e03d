pub mod Binds
pub mod DigitLemmas
pub mod ScanLemmas
pub mod AmountLemmas
pub mod CursorLemmas
pub mod DecimalLaws
pub mod RepeatLaws
pub mod NestingLaws

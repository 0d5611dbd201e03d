pub mod Ints
pub mod SumLemmas
pub mod Exchange
pub mod SumParts

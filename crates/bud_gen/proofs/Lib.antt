pub mod DrawLemmas
pub mod BlockLemmas
pub mod TextLemmas

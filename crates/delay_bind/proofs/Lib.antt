pub mod RowLaws
pub mod EntryLaws
pub mod NameFaults
pub mod ReadLaws
pub mod SoundTimings
pub mod LeafLaws
pub mod NetLaws
pub mod BoundLaws

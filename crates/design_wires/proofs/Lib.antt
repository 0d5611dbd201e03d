pub mod SortLaws
pub mod NumberLaws
pub mod GatherLaws

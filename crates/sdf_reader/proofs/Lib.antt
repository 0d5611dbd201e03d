pub mod UntilLemmas
pub mod NameLemmas
pub mod NumberLemmas
pub mod NestLemmas
pub mod ValueLemmas
pub mod FileLaws
pub mod ListLaws
pub mod NameLaws
mod RangeLemmas

pub mod Products
pub mod RelationLaws
pub mod Divisors
pub mod Searching
pub mod Leasts
pub mod KindLaws
pub mod StepCounts

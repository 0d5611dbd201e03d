pub mod ClassParts
mod GroupSets
mod LinkLaws

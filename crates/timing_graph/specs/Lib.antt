pub mod Graphs
pub mod GraphViews
pub mod Gathering
pub mod Rings
pub mod Orderings

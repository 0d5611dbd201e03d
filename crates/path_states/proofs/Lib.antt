pub mod EnteredLists
pub mod KeptFacts
pub mod ExploringSteps
pub mod GroupMarks
pub mod ClassStays

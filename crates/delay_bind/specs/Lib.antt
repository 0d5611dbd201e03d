pub mod Rows
pub mod Entries
pub mod Bindings
pub mod Answers
pub mod RowAnswers
pub mod Leaves
pub mod Binding

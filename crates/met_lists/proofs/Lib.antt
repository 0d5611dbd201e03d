pub mod Bools
pub mod ChainSteps
pub mod NoteSteps
pub mod MetSteps

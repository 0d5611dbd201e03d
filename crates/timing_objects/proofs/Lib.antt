pub mod SpanSteps
pub mod OrderSteps
pub mod NameSteps
mod TableSteps
pub mod AnswerLaws
pub mod ThingLaws

pub mod LeavingLemmas
pub mod FanoutSteps
pub mod WalkLemmas
pub mod ReachLaws

pub mod TermLemmas
pub mod NetFlows
pub mod Blocks
pub mod Slackness
pub mod Holding

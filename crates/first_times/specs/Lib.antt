pub mod FirstTimes

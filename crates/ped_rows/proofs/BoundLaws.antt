-- How long runs are.
mod IterationCounts
pub mod RunLengths

mod Traces
mod Doing
mod Picks
mod Stepping
mod Tracing
mod Halting
mod Reaching
mod Outcomes
mod InOrder
pub mod OneOutcome
mod Examples
mod Searches
mod Levels
mod PathLaws
mod Remembering
mod Adding
mod RacesFound
mod Following
pub mod OneReport
mod Carried

-- Lemmas of one DO: with another head, as a PARALLEL DO, with plain bounds.
pub mod OneHead
pub mod HeadNames
pub mod TurnedCounts
pub mod Contained
pub mod FlagRules
pub mod FlaggedLoops
pub mod ParallelLawful
pub mod PlainDecided
pub mod PlainAnswers
pub mod PlainPlaces

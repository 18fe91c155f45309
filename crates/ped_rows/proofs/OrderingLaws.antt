-- Lemmas of the room that this folder is named after.
pub mod Turned
pub mod StandingTrips
pub mod Ordering

-- Lemmas of the room that this folder is named after.
pub mod LoopsRound
pub mod OneReference
pub mod FineStatements
pub mod Ranks
pub mod PrivateOwners
pub mod Copies
pub mod SameTrips
pub mod Subscripts
pub mod Meeting

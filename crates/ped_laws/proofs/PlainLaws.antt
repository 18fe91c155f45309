-- Lemmas of the room that this folder is named after.
pub mod NearIntervals
pub mod PlainValues
pub mod SmallWrites
pub mod Nests
pub mod Standing
pub mod Entries
pub mod Insides
pub mod Examples
pub mod ValidPrograms

-- Lemmas of the room that this folder is named after.
pub mod TouchedReferences
pub mod TouchedStatements
pub mod LoopExits
pub mod Touched

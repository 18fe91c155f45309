-- Lemmas of the room that this folder is named after.
pub mod Collected
pub mod SameAccesses

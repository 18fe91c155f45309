-- Lemmas of the room that this folder is named after.
pub mod Arguments

-- Lemmas of the room that this folder is named after.
pub mod First
pub mod Former
pub mod OneReading

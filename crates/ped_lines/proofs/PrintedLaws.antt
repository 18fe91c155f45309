-- Lemmas of the room that this folder is named after.
pub mod Blanks
pub mod Bridge
pub mod Bytes
pub mod Example
pub mod Fields
pub mod Further
pub mod Grouped
pub mod Lines
pub mod Notes
pub mod Pieces
pub mod Whole

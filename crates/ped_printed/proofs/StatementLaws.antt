-- Lemmas of the room that this folder is named after.
pub mod Declarations
pub mod Expressions
pub mod Listing
pub mod Only
pub mod Squeezing
pub mod Statements

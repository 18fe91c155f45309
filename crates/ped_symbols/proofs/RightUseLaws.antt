-- Lemmas of the room that this folder is named after.
pub mod Constants
pub mod DeclaredArrays
pub mod Found
pub mod Loops
pub mod NamedArrays
pub mod NamedValues
pub mod Occurring
pub mod Quiet
pub mod Statements
pub mod UseKinds
pub mod Whole

-- Lemmas of the room that this folder is named after.
pub mod SameCells
pub mod Stores
pub mod Lists
pub mod OfCells
pub mod Clashes
pub mod Rearranging
pub mod Outside
pub mod Reorderings
pub mod Renamings
pub mod Walking
pub mod Changing
pub mod Exchanging
pub mod Appending
pub mod Rows
pub mod RaceFree
pub mod Conflicting
pub mod Examples

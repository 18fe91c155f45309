pub mod Counts
pub mod SameNames

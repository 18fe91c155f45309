-- Where a run comes to a statement.
pub mod ActPlaces
pub mod Going
pub mod NestedReferences
pub mod Unguarded
pub mod Reaching
pub mod Leaving
pub mod Coming

-- Conflicting accesses and the edges that cover them.
pub mod Reaching
pub mod Making
pub mod Sequence
pub mod Directions
pub mod Covered

-- Sets of names, and the names of a statement.
pub mod Collecting

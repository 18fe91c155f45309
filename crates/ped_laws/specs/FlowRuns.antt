-- Paths of a program and the runs along them.
pub mod Covering
pub mod Entries
pub mod Exits

pub mod Counts
pub mod Faults
pub mod Outside
pub mod Shelves
pub mod Sinks

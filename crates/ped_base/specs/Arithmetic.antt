-- Whole numbers of a width: their operations and their faults.
pub mod Arithmetic
pub mod Faults

pub mod Arithmetic
pub mod Substitution

-- Accesses of a run within the ranges that the tests ask about.
pub mod Nested
pub mod Together
pub mod Weights
pub mod Within

pub mod Examples
pub mod Packed

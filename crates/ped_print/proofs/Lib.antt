pub mod Begins
pub mod Nests
pub mod Pieces
pub mod Sides

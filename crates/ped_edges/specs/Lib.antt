pub mod Edges
pub mod Rows
pub mod CodeEdges
pub mod CodeSigns

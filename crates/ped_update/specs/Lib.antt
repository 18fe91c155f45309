pub use Rattle.ped_affine
pub use Rattle.ped_graph
pub mod Deltas
pub mod Fresh
pub mod Matching

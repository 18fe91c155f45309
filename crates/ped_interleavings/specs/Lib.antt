pub use Rattle.ped_tree
pub use Rattle.ped_eval
pub mod Lefts
pub mod Steps
pub mod Interleavings
pub mod Weights

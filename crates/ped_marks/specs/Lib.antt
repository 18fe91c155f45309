pub use Rattle.ped_base
pub mod Marks
pub mod Stretches

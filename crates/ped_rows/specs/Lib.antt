pub use Rattle.ped_laws
pub mod Occurring
pub mod Bounded
pub mod Shapes

pub use Rattle.ped_update
pub use Rattle.ped_valid
pub mod Changing
pub mod Flags
pub mod Holding
pub mod Splices
pub mod States

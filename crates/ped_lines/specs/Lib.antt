pub use Rattle.ped_base
pub use Rattle.ped_tree
pub mod Cutting
pub mod Errors
pub mod Quoting
pub mod Printed

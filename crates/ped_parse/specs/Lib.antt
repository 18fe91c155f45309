pub use Rattle.ped_lines
pub use Rattle.ped_statements
pub use Rattle.ped_blocks
pub use Rattle.ped_refusals
pub use Rattle.ped_printed
pub mod Entries
pub mod Refusals
pub mod Verdicts

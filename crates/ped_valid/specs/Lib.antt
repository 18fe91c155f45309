pub use Rattle.ped_parse
pub use Rattle.ped_symbols
pub mod Refusals
pub mod Validity
pub mod Verdicts

pub use Rattle.ped_rules
pub mod Skewing
pub mod Stripping
pub mod Peeling
pub mod CodePeeling
pub mod CodeSkewing

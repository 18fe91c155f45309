pub use Rattle.ped_rules
pub mod Privatising
pub mod Expanding
pub mod CodeElements

pub use Rattle.ped_rules
pub mod Blocks
pub mod Inlining
pub mod Folding
pub mod CallsPane
pub mod CodeFolding
pub mod RowOrders
pub mod CoveredCalls

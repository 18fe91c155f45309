pub use Rattle.ped_expressions
pub mod Listing
pub mod ProfileReading
pub mod Saturated
pub mod StatementReading
pub mod StatementViews

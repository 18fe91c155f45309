pub mod Meant
pub mod Known
mod KnownArrows
mod KnownUses
mod KnownMisfits
pub mod LinksKnown
mod Members
mod Added
mod Reached
mod Ranked
mod Passed
mod FirstFound
mod Numbered
mod LinkStages
mod NumberedUnits
mod Recursive
mod Heads
mod FormalNumbers
mod Used
mod CallSteps
mod Twice
mod Misfits
mod Aliases
mod PlacesMet
mod ArgumentsMet
mod Passings
mod FormalTables
mod Seeds
mod ArgumentSteps
mod ArrowsAdded
pub mod StatementTrees

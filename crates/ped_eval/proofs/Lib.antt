pub mod Agreements
pub mod Assignments
mod CellForms
mod ConstantLists
pub mod Copies
pub mod Endings
pub mod Entries
pub mod Evaluations
mod Examples
mod Frames
mod Intrinsics
pub mod Iterations
pub mod KeptByWrites
mod Levels
mod Lines
pub mod Moments
mod Notings
mod OneSubscript
pub mod Parts
pub mod Plain
mod Prints
mod Quotients
mod ReadNotes
pub mod Readings
mod RowsByNames
pub mod RunOutcomes
pub mod Running
pub mod SameValues
mod Seeing
mod ShapesByNames
mod SortedNames
mod Spans
pub mod Starts
mod StatementActs
mod StatementWatches
mod Storing
mod Steps
pub mod Takings
pub mod Undefining
mod Walks
mod Watching

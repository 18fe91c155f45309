-- Lemmas of the room that this folder is named after.
pub mod RowDistances
pub mod ExactForms
pub mod LoopChoices
pub mod RangeCounts
pub mod ReferenceNests
pub mod AssignedNames
pub mod FirmLoops
pub mod PositionLengths
pub mod Chosen

-- Lemmas of the room that this folder is named after.
pub mod Examples
pub mod Cancelling
pub mod Comings
pub mod Counting
pub mod FormValues
pub mod LoopRanges
pub mod Nesting
pub mod Parts
pub mod Sides
pub mod Solutions
pub mod Texts
pub mod ValueIntervals
pub mod Weighing

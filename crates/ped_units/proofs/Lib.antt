mod Exchanged
mod Nested
mod UnitForms
mod Saturating
mod Earliest
mod Read
mod SeenBefore
mod KeptCalls
mod Packed
mod CallLimits
mod EndedLists
mod Entries
mod FirstOfAll
mod ReadUnits
mod BuiltUnits
pub mod CollectedNames
pub mod OneUnits
mod DimensionedNames
mod TablesSoFar
mod SameArrays

mod CommonLoops
mod Exchanging
mod FormLengths
mod HeldEdges
mod EdgesAsked
pub mod InOrder
pub mod Known
mod LevelEdges
mod LevelOrder
pub mod OnePane
pub mod Places
mod PrintedRows
mod Selecting
mod SideLaws
mod KnownSides
mod NamedUnknowns
mod NumberedStatements
pub mod Slices
mod Standing
mod ToldViews

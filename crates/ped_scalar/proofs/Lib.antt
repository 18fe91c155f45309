pub mod FlowAnswers
pub mod LostAnswers
pub mod PrivatiseRules
pub mod KeptByPrivatising
pub mod ExpandRules
pub mod ExpandedPrograms
pub mod TidyReferencesPrivatised
pub mod TidyReferencesExpanded
pub mod TidyPathsPrivatising
pub mod TidyPathsExpanding
pub mod TidyPathsUnshown
pub mod UnwrittenReads
pub mod UnwrittenStatements
pub mod WrittenThere
pub mod VariablesRound
pub mod KeptByExpanding
pub mod TidyKept
pub mod UnrejectedSteps
pub mod LiveSaid
pub mod LawfulSteps
mod ArraysForScalars
mod PrivatisedLoops
mod PrivatisedParts
mod PrivatisedCells
mod PrivatisedOrigins
mod PrivatisedRaces
mod PrivatisedKeeps
mod ExpandedLoops
mod ExpandedRuns
mod ExpandedNames
mod StandingElements
mod LastValues
mod ExpandedPlaces
mod ExpandedRaces
mod ExpandedKeeps

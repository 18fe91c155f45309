-- Lemmas of tidy programs and of programs without C$PED REJECT.
pub mod UnrejectedTrees
pub mod UnrejectedEdges
pub mod TidyPathsSums
pub mod TidyPathsStops
pub mod TidyPathsGaps
pub mod TidyPathsBut
mod TidyPathsPassed
pub mod TidyPathsShown
pub mod TidyPathsInside
pub mod TidyReferences
pub mod TidyReferencesFilled
pub mod TidyReferencesGaps
mod Comments
pub mod WrittenIndices
pub mod TidyPathsPrivate
pub mod ExchangedShown
pub mod ExchangedDos
pub mod ExchangedTidy
mod Examples

mod SettledPrograms
mod BlockAnswers
pub mod InlineRules
mod InlineAnswers
mod AlikeRuns
mod OpenedRuns
mod InlinedShape
mod InlineKeeps
mod InlinedTidy
mod OneToOne
pub mod InlineLawful
mod EqualRows
mod InsertedRows
mod OneRows
mod PushedLines
mod PlacedBlocks
mod EdgeLevels
mod BlockRounds
mod FoldedCovering
pub mod OnePane
pub mod SomeRows

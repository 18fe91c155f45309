mod Accepted
mod Answering
mod AutoRows
mod AutoScripts
pub mod AutoSteps
pub mod AutoTries
mod AutoUndone
mod CarriedTexts
mod Doing
mod Examples
pub mod IdleRows
mod Idling
pub mod KeptMeanings
mod ListedLoops
mod Moved
mod Moves
pub mod OneAnswer
mod OneFinding
pub mod OneRun
pub mod OneStep
mod PrintedSources
mod RefusedSteps
mod RunsInOrder
mod ShortNames
mod Shown
mod Stepping
mod FlagTrees
mod StillPairs
mod ParallelAnswers

mod FreeNames
mod BoundArguments
mod Expansions
mod CourseSteps
mod Measures
mod BlockSteps
mod NamedAlike
mod PlainExpanding
mod FirstCalls
mod SameMeanings
mod Settled
mod Judged
mod FirstPast
mod NamedUnits
mod FormCalls
mod PlainUnits
mod PlainFiles
mod PlainTexts
mod PastKnown
pub mod OneVerdict
mod OpenedUnits
mod MainSteps
mod MainStarts
pub mod NumberedNames
pub mod SmallKinds
mod ReadCharacters
mod BoundedStatements
mod BoundedForms
mod BoundedCalls
mod FewUnits
mod LiteralBounds

pub mod ShapedCode
pub mod RejectRules
mod Endings
mod FlagAnswers
mod RejectedTrees
mod LoopsOfReferences
mod PendingEdges
mod VariableNames
mod RejectAnswers
mod ReverseRules
mod ReversedLoops
mod ReversalLawful
mod ReverseAnswers
mod ShapedPairs
mod SwappedKeeps
mod SwappedBounds
mod FreeBounds
mod ShapedValues
mod MovedBounds
mod ShapedWays
mod ShapedBounds
mod FreeSwaps
mod ShapedSwaps
mod SomeVectors
mod OpenEdges
mod UncrossedPairs
pub mod InterchangeRules
mod ShapedNames
mod InterchangeLawful
pub mod Determined
mod InterchangeAnswers
mod SerialLawful
mod WithoutEvidence

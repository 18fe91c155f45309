-- Lemmas of names and numbers: which ones a program has, and what doesn't occur in it is touched by no act.
pub mod ReferencedNames
pub mod UnnamedCells
pub mod AbsentNumbers
pub mod RenumberedRaces
pub mod ReferencesThere
pub mod ValuesBut
pub mod ConstantBounds
pub mod ConstantNames
pub mod SubstitutedReferences
pub mod SubstitutedPaths
pub mod SubstitutedRejections

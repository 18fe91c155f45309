mod Here
mod Remainders
mod OneTaken
mod Sizes
mod NestRooms
mod KeptRooms
mod Answering
pub mod SkewRules
pub mod StripRules
pub mod PeelRules
mod SkewAnswers
mod StripAnswers
mod PeelAnswers
pub mod Determined
mod StripsNumbers
mod StripsCells
pub mod StripsBounds
mod StripsTrips
mod StripsControls
mod StripsAbsent
mod StripsStand
mod StripsRaces
mod StripsAccesses
mod StripsKeeps
mod StripsKinds
mod StripsTrust
mod StripsLawful
mod SkewedActs
mod SkewedLoops
mod SkewedStands
mod SkewedKeeps
mod SkewedValues
mod SkewedBounds
mod SkewedNames
mod SkewedTrust
mod SkewLawful
mod PeelFront
mod PeelCounts
pub mod PeelKinds
mod PeelNumbers
mod PeelRuns
mod PeelQuiet
mod PeelCells
mod PeelStands
mod PeelRaces
mod PeelMeets
mod PeelKeeps
mod PeelWrites
mod PeelTrusted
mod PeelLawful

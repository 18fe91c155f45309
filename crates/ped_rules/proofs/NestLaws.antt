-- Lemmas of a DO in a DO: where it stands and what it does, and two loops as lists that are woven anew from the bodies in their iterations.
pub mod OnlyBodies
pub mod LoopPairs
pub mod InnerPlaces
pub mod IndicesApart
pub mod NestKnots
pub mod PairOrders
pub mod FixedWrites
pub mod SettledBounds
pub mod ExchangedRaces
pub mod WovenCells
pub mod WovenLoops
pub mod WovenConflicts
pub mod WovenLists
pub mod WovenStands
pub mod WovenAccesses
pub mod WovenTrust
pub mod WovenKinds

-- Lemmas of laws of lists that steps on loops use.
pub mod AgreedApart
pub mod PutFor
pub mod KnotLists
pub mod EachKnot
pub mod KnotRows
pub mod TripOrders
mod NewNames
pub mod Woven
pub mod CountedActs
pub mod RaceSources
mod Examples

-- Lemmas of bodies: statements rewritten at another place do likewise, and a DO is made of its trips.
pub mod Corresponding
pub mod LikewiseSight
pub mod LikewiseReads
pub mod LikewisePlaces
pub mod LikewiseRuns
pub mod LikewiseActs
pub mod LikewiseAccesses
pub mod LimitParts
pub mod TripLists
pub mod TripsLikewise
pub mod Rewritings
pub mod MovedCells
pub mod StandingPlaces
pub mod NamesApart
pub mod Instances
pub mod Examples

-- Each program has its dependences, and arrows have what they reach.
pub mod Choosing
pub mod Closures
pub mod Deciding
pub mod Differences
pub mod Edges
pub mod Excluding
pub mod Meeting
pub mod Reaching
pub mod Sentences
pub mod Solutions
pub mod Spanning
pub mod Sums

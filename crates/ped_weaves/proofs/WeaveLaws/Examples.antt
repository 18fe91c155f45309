-- The laws at work.
mod Lists
mod Checks
mod PutIn
mod Reversed
mod Entries
mod Iterations
mod TakenNames
mod AnyLength

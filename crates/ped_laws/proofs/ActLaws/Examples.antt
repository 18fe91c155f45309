-- The laws at work on the acts of loops with two iterations: each corollary, and then whole steps; and on a loop with any number of iterations.
mod AnyLength
mod Checks
mod Distribution
mod Interchange
mod Lists
mod Orders
mod Premises
mod Privatisation
mod Races
mod Reversal
mod Wanted

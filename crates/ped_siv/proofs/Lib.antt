mod Answering
mod Distances
mod Points
mod Sums

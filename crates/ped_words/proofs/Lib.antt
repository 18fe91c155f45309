mod Asked
mod Chains
mod FirstWords
mod Sizes

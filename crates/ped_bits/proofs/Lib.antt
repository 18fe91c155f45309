mod Bits
mod LaneWords
mod Merging
mod Relations
mod Values

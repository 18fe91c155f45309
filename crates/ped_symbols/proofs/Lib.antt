mod Anyone
mod Bounding
mod Capped
mod Collected
mod Elements
pub mod FewReferences
mod Lookups
mod ManyPairs
mod Repeats
mod Sizes
mod Walking
pub mod RightUseLaws

pub mod Excluded
pub mod Forms
pub mod Intervals
pub mod Limits
pub mod SameViews
pub mod Vectors
pub mod Views
pub mod Whole

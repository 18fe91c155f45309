-- What steps do to runs.
pub mod Exchanging
pub mod Gaps
pub mod Pasting
pub mod Meaning
pub mod Substituting
pub mod Renumbering
pub mod Expanding

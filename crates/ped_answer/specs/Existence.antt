-- That answers exist: sentences that are settled.
pub mod Deciding

-- Runs: what they touch, see and show.
pub mod Replaying
pub mod Seeing
pub mod Showing
pub mod Touching

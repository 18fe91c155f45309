pub mod Modes
pub mod Parses
pub mod Requests
pub mod Views

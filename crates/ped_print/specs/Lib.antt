pub mod Lengths
pub mod Places
pub mod PrintedLines
pub mod Standings

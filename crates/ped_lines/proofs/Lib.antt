pub mod Filling
pub mod OneLine
pub mod Constants
pub mod Quoting
pub mod Trimming
pub mod PrintedLaws

pub mod Entries
pub mod LargeItems
pub mod OneOfBoth
pub mod OtherLiterals
pub mod OtherRefusals
pub mod PrintedHere
pub mod ReadAs

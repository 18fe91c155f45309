pub mod Rows
pub mod Certificates
pub mod Limits
pub mod Branches
pub mod PairTexts

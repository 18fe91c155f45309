pub mod Limits
pub mod Lists

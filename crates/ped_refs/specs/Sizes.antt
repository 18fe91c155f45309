-- How large a program within the limits is.
pub mod Sizes

pub mod Chosen
pub mod Dividing
mod Equal
pub mod Images
pub mod Products
pub mod SameViews
mod Twos

pub mod BlockViews
pub mod Fronts
pub mod Machine

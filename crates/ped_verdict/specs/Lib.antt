pub mod CodeForms
pub mod Dependence
pub mod Exactness
pub mod Fronts
pub mod Kept
pub mod Marked
pub mod Sights

-- What dependences don't look at.
mod NamedValues
pub mod SameDependences

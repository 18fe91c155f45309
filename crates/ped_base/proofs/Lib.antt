mod Keeping
pub mod ArithmeticLaws
pub mod FirstLines
pub mod NameEquality

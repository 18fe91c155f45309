pub mod Levels
pub mod Numbers
pub mod GrammarLaws
pub mod NameLaws
pub mod ConstantLaws
